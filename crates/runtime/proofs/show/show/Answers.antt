-- The payload in hand, or nothing.
use mathlib.Core.Path.{refl}
use Rattle.ledger.specs.Call.{Op}
use Rattle.rules.specs.Calls.{show_entry}
use Rattle.rules.proofs.Guards.{ruled-still}
use Rattle.rules.proofs.Stories.Host.{meets_no, meets_still}
use Rattle.rules.proofs.Stories.Showing.{shown_no, shown_yes}
use Rattle.runtime.proofs.HostLaws.{of_sound, ready, unsound}
use Rattle.runtime.proofs.show.show.Goals as goal

pub show_in-requires : goal.show_in-requires
show_in-requires c = ready c.args.t.now c.args.p.now c.in-Ok.ensures

pub returns-in-Ok : goal.returns-in-Ok
returns-in-Ok c =
    let w = c.args.t.now in
    let p = c.args.p.now in
    let q = of_sound w p c.in-Ok.ensures in record {
      meets = meets_still Op.show w p (ruled-still show_entry (λ k s. refl)) refl q.0 q.1 (ready w p c.in-Ok.ensures).room c.show_in.ensures.0;
      place = shown_yes w p c.args.p.ref_ptr refl q.0 q.1 c.show_in.ensures.1;
    }

pub returns-in-Err : goal.returns-in-Err
returns-in-Err c =
    let w = c.args.t.now in
    let p = c.args.p.now in
    let q = unsound w p c.in-Err.ensures in
    record { meets = meets_no Op.show w p refl q.0; place = shown_no w p c.args.p.ref_ptr refl q.0 }
