-- The kinds of a trace's records, and the numbers that stand for them.
use Rattle.std.specs.Prelude.{◌≡◌, ℕ, Result, MatchResult}
use Rattle.trace.specs.declared.kind.Kind.{Kind}
use Rattle.trace.specs.declared.kind.Kind.TheVariants.{Start, Spawn, Next, Yield, Notify, Receive, Show, Shown, After, Every, Cancel, Link, Unlink, Monitor, Demonitor, Exit, Advance, Report, Bus, Publish, Subscribe, Unsubscribe, Read}
use Rattle.trace.specs.declared.kind.UnknownKind.{UnknownKind}

-- the number of a kind
abbrev pub number : Kind → ℕ
number Start = 16
number Spawn = 17
number Next = 18
number Yield = 19
number Notify = 20
number Receive = 21
number Show = 22
number Shown = 23
number After = 24
number Every = 25
number Cancel = 26
number Link = 27
number Unlink = 28
number Monitor = 29
number Demonitor = 30
number Exit = 31
number Advance = 32
number Report = 33
number Bus = 34
number Publish = 35
number Subscribe = 36
number Unsubscribe = 37
number Read = 38

-- the kind of this number, or an error with a number that no kind has
abbrev pub Decodes : ℕ → Result Kind UnknownKind → Type 0
Decodes n r = MatchResult r (λ kind. number kind ≡ n) (λ e. (e.0 ≡ n) × ((kind : Kind) → number kind ≡ n → ⊥))
