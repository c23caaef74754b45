-- No link entry below e joins the two.
use Rattle.tables.specs.Columns.{LINK-ONE, LINK-TWO}
use Rattle.tables.specs.State.{view}
use Rattle.rules.specs.Terms.{joins}
use Rattle.actions.proofs.ActionLaws.{Searched}
use Rattle.actions.proofs.links.link_of.Given as goal

abbrev pub invariant-loop-e : goal.invariant-loop-e
invariant-loop-e l = Searched (joins (view l.k l.t l.p LINK-ONE) (view l.k l.t l.p LINK-TWO) l.a l.b) l.k.links l.n l.e
