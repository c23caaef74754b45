-- The rules of links, monitors and timers, by the row that says how the slots stand.
use Rattle.std.specs.Prelude.{ℕ, ◌≡◌, Bool, true, false, not, List, get_or}
use Rattle.tables.specs.Limits.{DUE-END}
use Rattle.rules.specs.Rule.{Rule, is, le, eq, differ, both, imp, each, test}
use Rattle.rules.specs.Sound.{age_rule, interval_rule}
use Rattle.rules.specs.Terms.{joins}
use Rattle.sound.specs.Pairs.{PairSeen}
use Rattle.sound.specs.Standing.{lives_in}

-- two words, one up, name two different live actors
abbrev pub ends_in : List ℕ → ℕ → ℕ → Rule
ends_in row one two = both (is (lives_in row one)) (both (is (lives_in row two)) (differ one two))

-- both are 0, or name two such
abbrev pub link_in : List ℕ → ℕ → ℕ → Rule
link_in row one two = both (imp (eq one 0) (eq two 0)) (imp (differ one 0) (ends_in row one two))

-- no entry before e joins what it joins
abbrev pub pair_in : List ℕ → List ℕ → ℕ → Rule
pair_in ones twos e = imp (differ (get_or ones e 0) 0) (each e (λ d. is (not (joins ones twos (get_or ones e 0) (get_or twos e 0) d))))

-- the first n links, and their pairs
abbrev pub links_in : List ℕ → List ℕ → List ℕ → ℕ → Rule
links_in row ones twos n = both (each n (λ e. link_in row (get_or ones e 0) (get_or twos e 0))) (each n (λ e. pair_in ones twos e))

abbrev pub monitor_in : List ℕ → ℕ → ℕ → ℕ → Rule
monitor_in row watcher watched age = both (age_rule watcher age) (link_in row watcher watched)

abbrev pub timer_in : List ℕ → ℕ → ℕ → ℕ → ℕ → Rule
timer_in row owner age due interval =
    both (age_rule owner age)
    (both (imp (eq owner 0) (both (eq due 0) (eq interval 0)))
    (imp (differ owner 0) (both (is (lives_in row owner)) (both (le due DUE-END) (interval_rule interval)))))

-- what is told of a link, and the square after it
pub record LinkSeen (side : ℕ) (row : List ℕ) (one two : ℕ) (seen : List ℕ) (r : Bool) (seen' : List ℕ) : Type 0 where
  -- it is not in use
  pub none : one ≡ 0 → (r ≡ test (link_in row one two)) × (seen' ≡ seen)
  -- it is in use, and joins two live actors
  pub good : (one ≡ 0 → ⊥) → test (ends_in row one two) ≡ true → PairSeen side one two seen r seen'
  -- it does not
  pub bad : (one ≡ 0 → ⊥) → test (ends_in row one two) ≡ false → r ≡ false
