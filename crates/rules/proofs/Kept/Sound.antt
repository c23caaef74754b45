-- What soundness gives to a proof that has it as a premise.
use Prim.Native.Nat.{ℕ}
use mathlib.Core.Path.{◌≡◌}
use mathlib.Core.Bool.{◌&&◌}
use mathlib.Core.List.{List}
use lib.ListN.{length}
use lib.Dec.{leb}
use borrow.Author.Tests.{leb-true, le-leb}
use Rattle.tables.specs.declared.Caps.{Caps}
use Rattle.tables.specs.Columns.{PAYLOAD, REST}
use Rattle.tables.specs.State.{size, needed, needed_p, view, InRange, Room}
use Rattle.tables.proofs.ViewLaws.{view-full, full-view, view_full_p, full_view_p}
use Rattle.rules.specs.Rule.{each, eq, test, Holds}
use Rattle.rules.specs.Sound.{range_rule, size_rule, fit_rule, sound_at, Ready}
use Rattle.rules.proofs.Kept.Rules.{and_same, same_test}

-- every column has its size exactly where both buffers are long enough
pub size-test : (k : Caps) (w p : List ℕ) → test (size_rule k (view k w p)) ≡ leb (needed k) (length w) && leb (needed_p k) (length p)
unfolding size_rule
size-test k w p =
    and_same
    (same_test (each REST (λ c. eq (length (view k w p c)) (size k c))) (leb (needed k) (length w)) (λ h. le-leb (needed k) (length w) (full-view k w p h)) (λ e. view-full k w p (leb-true (needed k) (length w) e)))
    (same_test (eq (length (view k w p PAYLOAD)) (needed_p k)) (leb (needed_p k) (length p)) (λ h. le-leb (needed_p k) (length p) (full_view_p k w p h)) (λ e. view_full_p k w p (leb-true (needed_p k) (length p) e)))

-- the ranges, as a record
pub range_of : (k : Caps) → Holds (range_rule k) → InRange k
range_of k h =
    let (((some_actors, few_actors), (some_mails, few_mails)), ((some_datas, few_datas), (few_links, (few_monitors, few_timers)))) = h in
    record {
      some_actors = some_actors;
      few_actors = few_actors;
      some_mails = some_mails;
      few_mails = few_mails;
      some_datas = some_datas;
      few_datas = few_datas;
      few_links = few_links;
      few_monitors = few_monitors;
      few_timers = few_timers;
    }

-- and back
pub of_range : (k : Caps) → InRange k → Holds (range_rule k)
of_range k r =
    (((r.some_actors, r.few_actors), (r.some_mails, r.few_mails)), ((r.some_datas, r.few_datas), (r.few_links, (r.few_monitors, r.few_timers))))

-- capacities in range and columns of their sizes are room
pub room_of : (k : Caps) (w p : List ℕ) → Holds (fit_rule k (view k w p)) → Room k w p
unfolding size_rule
room_of k w p h = let (range, (words, bytes)) = h in record { caps = range_of k range; words = full-view k w p words; bytes = full_view_p k w p bytes }

-- a sound runtime in its buffers is what the functions inside ask for
pub ready_of : (k : Caps) (w p : List ℕ) → Holds (sound_at k (view k w p)) → Ready k w p
unfolding sound_at
ready_of k w p h = record { room = room_of k w p h.0; sound = h }
