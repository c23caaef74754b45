-- A message as it is written says what the reckoning's message says, and nothing else: what stands in an entry reads back.
use Prim.Native.Nat.{ℕ, ◌^◌, ◌<◌}
use mathlib.Core.Path.{◌≡◌, refl, sym, ap, ◌∙◌}
use mathlib.Core.Bool.{cond}
use lib.Dec.{eqb}
use Rattle.ledger.specs.Ledger.{Message, Says}
use Rattle.ledger.specs.Ledger.Says.{wrote, ticked, ended}
use Rattle.ledger.specs.Limits.{EXIT-CLASS, TIMER-CLASS}
use Rattle.records.specs.declared.tick.TickRead.{TickRead}
use Rattle.records.specs.declared.exit.ExitRead.{ExitRead}
use Rattle.records.specs.Records.{read_exit, read_tick}
use Rattle.records.proofs.RecordLaws.{exit_back, tick-back}
use Rattle.rules.specs.Agrees.{Letter, letter}

-- what is written, read: a tick, an exit, or a tag and a payload, by the class
abbrev pub read : Letter → Says
read x =
    let e = read_exit x.payload in
    cond (eqb x.class TIMER-CLASS) (ticked (read_tick x.payload).id)
    (cond (eqb x.class EXIT-CLASS) (ended e.actor e.reason e.monitor) (wrote x.tag x.payload))

-- its numbers fit the fields of a record
abbrev pub Fits : Says → Type 0
Fits (wrote tag payload) = Unit
Fits (ticked timer) = timer < 2 ^ 64
Fits (ended actor reason monitor) = (actor < 2 ^ 64) × (reason < 2 ^ 16) × (monitor < 2 ^ 64)

-- what is said reads back
said-back : (to sender : ℕ) (s : Says) → Fits s → read (letter (record { to = to; sender = sender; says = s })) ≡ s
said-back to sender (wrote tag payload) h = refl
said-back to sender (ticked timer) h = ap (λ (r : TickRead). ticked r.id) (tick-back timer h)
said-back to sender (ended actor reason monitor) h = ap (λ (r : ExitRead). ended r.actor r.reason r.monitor) (exit_back actor reason monitor h.0 h.1 h.2)

-- THE LAW: what stands in an entry as a message is written reads as what the message says
pub letter-back : (m : Message) → Fits m.says → read (letter m) ≡ m.says
letter-back m = said-back m.to m.sender m.says

-- so two messages that are written alike say the same, to the same actor and from the same
pub letter-once : (m n : Message) → Fits m.says → Fits n.says → letter m ≡ letter n → (m.to ≡ n.to) × (m.sender ≡ n.sender) × (m.says ≡ n.says)
letter-once m n f g e = (ap (λ (x : Letter). x.to) e, ap (λ (x : Letter). x.sender) e, sym (letter-back m f) ∙ ap read e ∙ letter-back n g)
