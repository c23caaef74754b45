-- The answers as the code makes them: of a result, which is what the work made or found, or why it was not done.
use Rattle.std.specs.Prelude.{ℕ, List, pos, Result, Ok, Err}
use Rattle.rules.specs.declared.refusals.Refusal.{Refusal}
use Rattle.rules.specs.declared.refusals.Refusal.TheVariants.{Malformed, NoRoom, Unknown, NotNow, Nothing, Waiting, Unsound}
use Rattle.rules.specs.declared.refusals.Next.{Next}
use Rattle.rules.specs.declared.refusals.Next.TheVariants.{Runs, Idle}
use Rattle.rules.specs.declared.refusals.Message.{Message}
use Rattle.rules.specs.declared.refusals.Place.{Place}
use Rattle.rules.specs.declared.refusals.Notices.{Notices}
use Rattle.rules.specs.declared.Made.{Made}
use Rattle.rules.specs.declared.Turn.{Turn}
use Rattle.rules.specs.declared.Received.{Received}
use Rattle.rules.specs.declared.Shown.{Shown}
use Rattle.rules.specs.declared.Ended.{Ended}
use Rattle.rules.specs.declared.Advanced.{Advanced}
use Rattle.rules.specs.declared.Report.{Report}
use Rattle.rules.specs.declared.Copied.{Copied}
use Rattle.rules.specs.Calls.{Ans, Shape, ended, made, no_turn, refusal}
use Rattle.rules.specs.Calls.Shape.{a_number, an_id, a_turn, a_message, a_place, an_end, an_advance, a_report}

-- "Numbers a call answers"
abbrev pub code_of : Refusal → ℕ
code_of Malformed = 1
code_of NoRoom = 2
code_of Unknown = 3
code_of NotNow = 4
code_of Nothing = 5
code_of Waiting = 6
code_of Unsound = 7

-- 0 and what the work made or found, by f; or the refusal: the number, and zeros beside it
abbrev pub answer_of : {T : Type 0} → (h : Shape) → (T → Ans h) → Result T Refusal → Ans h
answer_of h f (Ok x) = f x
answer_of h f (Err e) = refusal h (code_of e)

-- ---- of each shape
abbrev pub done_of : Result Unit Refusal → ℕ
done_of = answer_of a_number (λ x. 0)

abbrev pub made_of : Result ℕ Refusal → Made
made_of = answer_of an_id (made 0)

-- who now runs, or nobody and the time to sleep
abbrev pub turned : Next → Turn
turned (Runs id reason) = record { no = 0; id = id; reason = reason; sleep = pos 0 }
turned (Idle sleep) = no_turn 6 sleep

abbrev pub next_of : Result Next Refusal → Turn
next_of = answer_of a_turn turned

abbrev pub received_of : Result Message Refusal → Received
received_of = answer_of a_message (λ m. record { no = 0; sender = m.sender; class = m.class; tag = m.tag; length = m.length })

abbrev pub shown_of : Result Place Refusal → Shown
shown_of = answer_of a_place (λ x. record { no = 0; offset = x.offset; length = x.length })

abbrev pub ended_of : Result Notices Refusal → Ended
ended_of = answer_of an_end (λ n. ended 0 n.sent n.lost)

abbrev pub advanced_of : Result ℕ Refusal → Advanced
advanced_of = answer_of an_advance (λ n. record { no = 0; fired = n })

abbrev pub report_of : Result (List ℕ) Refusal → Report
report_of = answer_of a_report (λ ns. record { no = 0; free = ns })

-- the bytes of a copy lie in the lent slice, so the length alone stands in the struct
abbrev pub copied_of : Result ℕ Refusal → Copied
copied_of (Ok n) = record { no = 0; length = n }
copied_of (Err e) = record { no = code_of e; length = 0 }
