-- A host call leaves a sound runtime sound, for every rule that keeps `Good`: so after a start no call answers 7.
use Prim.Native.Nat.{ℕ, zero, suc, ◌<◌}
use native.Mathlib.Omega.{arith}
use mathlib.Core.Path.{◌≡◌, refl, ◌∙◌}
use mathlib.Core.List.{List, [], ◌∷◌, ◌++◌}
use lib.ListN.{length, get_or, get_or-append}
use lib.Dec.{lit<}
use Rattle.tables.specs.Columns.{ACTORS, DATAS, LINKS, MAILS, MONITORS, REST, TIMERS}
use Rattle.tables.specs.declared.Caps.{Caps}
use Rattle.tables.specs.State.{State, caps_of, glue, join_p, join_w}
use Rattle.tables.proofs.ViewLaws.{view-join, view-past}
use Rattle.rules.specs.Rule.{Holds}
use Rattle.rules.specs.Sound.{sound_rule, view_of}
use Rattle.rules.specs.Calls.{Out}
use Rattle.rules.specs.Host.{Called}
use Rattle.rules.proofs.Kept.Good.{good_of, of_good}
use Rattle.rules.specs.Good.{Good}
use Rattle.rules.proofs.Kept.Clauses.{states_actors, states_datas, states_links, states_mails, states_monitors, states_timers}
use Rattle.rules.proofs.Stories.Host.{called_sound}

-- a column of one word in front: the words after it
one_word : (l r : List ℕ) (i : ℕ) → length l ≡ 1 → get_or (l ++ r) (suc i) 0 ≡ get_or r i 0
one_word (x ∷ []) r i e = refl
one_word [] r i e = absurd (omega arith)
one_word (x ∷ y ∷ l) r i e = absurd (omega arith)

-- word i of the words is the word of column i of the head
head-word : (n : ℕ) (f : State) (i : ℕ) → ((c : ℕ) → c < suc i → length (f c) ≡ 1) → i < n → get_or (glue n f) i 0 ≡ get_or (f i) 0 0
unfolding glue
head-word zero f i h l = absurd (omega arith)
head-word (suc n) f zero h l = get_or-append (f 0) _ 0 0 (omega (arith, h 0 (omega arith)))
head-word (suc n) f (suc i) h l = one_word (f 0) _ i (h 0 (omega arith)) ∙ head-word n (λ c. f (suc c)) i (λ c m. h (suc c) (omega arith)) (omega arith)

-- the words of a good state state its capacities
caps-join : (k : Caps) (s : State) → Good k s → caps_of (join_w s) ≡ k
unfolding join_w
caps-join k s g =
    same-caps _ _ _ _ _ _ k (word 0 (lit< tt) ∙ states_actors g) (word 1 (lit< tt) ∙ states_mails g) (word 2 (lit< tt) ∙ states_datas g)
    (word 3 (lit< tt) ∙ states_links g) (word 4 (lit< tt) ∙ states_monitors g) (word 5 (lit< tt) ∙ states_timers g)
  where
    one : (c : ℕ) → c < 6 → length (s c) ≡ 1
    one zero l = g.sized.words ACTORS (lit< tt)
    one (suc zero) l = g.sized.words MAILS (lit< tt)
    one (suc (suc zero)) l = g.sized.words DATAS (lit< tt)
    one (suc (suc (suc zero))) l = g.sized.words LINKS (lit< tt)
    one (suc (suc (suc (suc zero)))) l = g.sized.words MONITORS (lit< tt)
    one (suc (suc (suc (suc (suc zero))))) l = g.sized.words TIMERS (lit< tt)
    one (suc (suc (suc (suc (suc (suc c)))))) l = absurd (omega arith)

    word : (i : ℕ) → i < 6 → get_or (join_w s) i 0 ≡ get_or (s i) 0 0
    word i l = head-word REST s i (λ c m. one c (omega arith)) (omega arith)

    same-caps : (a b c d e f : ℕ) (k : Caps) → a ≡ k.actors → b ≡ k.mails → c ≡ k.datas → d ≡ k.links → e ≡ k.monitors → f ≡ k.timers →
        record { actors = a; mails = b; datas = c; links = d; monitors = e; timers = f } ≡ k
    same-caps a b c d e f k p q r x y z = rw (p, q, r, x, y, z)

-- a good state in its buffers is sound, and is read back as it was
pub join-sound : (k : Caps) (s : State) → Good k s → Holds (sound_rule (join_w s) (join_p s)) × (view_of (join_w s) (join_p s) ≡ s) × (caps_of (join_w s) ≡ k)
join-sound k s g =
    let e = view-join k s g.sized in
    rw (caps-join k s g) (rw e (of_good k s g), e, refl)

-- sound buffers hold a good state
pub good_view : (w p : List ℕ) → Holds (sound_rule w p) → Good (caps_of w) (view_of w p)
good_view w p h = good_of (caps_of w) (view_of w p) (view-past (caps_of w) w p) h

module _ {A : Type 0} (seven : A) (rule : Caps → State → Out A) (keeps : (k : Caps) (s : State) → Good k s → Good k (rule k s).state) where
  -- THE THEOREM: a call leaves sound buffers sound, with the same capacities, and what they hold is the rule's state
  pub host_keeps : (w p : List ℕ) (r : A) (w' p' : List ℕ) → Called seven rule w p r w' p' → Holds (sound_rule w p) →
      Holds (sound_rule w' p') × (r ≡ (rule (caps_of w) (view_of w p)).ans) × (view_of w' p' ≡ (rule (caps_of w) (view_of w p)).state) × (caps_of w' ≡ caps_of w)
  host_keeps w p r w' p' c h =
      let d = called_sound seven rule w p h c in
      let j = join-sound (caps_of w) (rule (caps_of w) (view_of w p)).state (keeps (caps_of w) (view_of w p) (good_view w p h)) in
      rw (d.1, d.2) (j.0, d.0, j.1, j.2)
