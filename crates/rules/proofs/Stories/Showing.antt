-- What is shown, and where: `show` gives the part of the payload area whose offset and length fg_shown answers, and no second part meets its promise.
use Prim.Native.Nat.{ℕ, ◌+◌, ◌-◌, ◌*◌, ◌≤◌}
use mathlib.Core.Path.{◌≡◌, refl, sym, ap, ◌∙◌}
use mathlib.Core.Bool.{Bool, true, false}
use mathlib.Core.List.{List}
use native.Mathlib.Omega.{arith}
use lib.ListN.{length, take, drop, length-drop}
use lib.Seq.{length-take-le}
use lib.Dec.{eqb}
use borrow.Author.Tests.{eqb-false}
use denote.Ref.{Bor}
use Rattle.ledger.specs.Call.Answer.{part}
use Rattle.ledger.specs.Call.Call.{op}
use Rattle.ledger.specs.Call.Op.{show, shown}
use Rattle.pools.proofs.BoolLaws.{split}
use Rattle.tables.specs.declared.Caps.{Caps}
use Rattle.tables.specs.Columns.{HAND, PAYLOAD}
use Rattle.tables.specs.Limits.{ENTRY-BYTES, HEADER-BYTES}
use Rattle.tables.specs.State.{State, at, caps_of, view}
use Rattle.tables.proofs.ViewLaws.{payload-part, view-past}
use Rattle.rules.specs.declared.Shown.{Shown}
use Rattle.rules.specs.Rule.{test}
use Rattle.rules.specs.Sound.{sound_rule, view_of}
use Rattle.rules.specs.Terms.{runner}
use Rattle.rules.specs.Calls.{ruled, show_entry, shown_entry}
use Rattle.rules.specs.Host.{answered, further, shown_at}
use Rattle.rules.specs.Run.{say_shown}
use Rattle.rules.specs.Story.{Meets}
use Rattle.rules.proofs.Kept.Good.{good_of}
use Rattle.rules.specs.Good.{Good}
use Rattle.rules.proofs.Kept.Clauses.{hand_fits, length-fits}
use Rattle.rules.proofs.Stories.Host.{meets_answered, struct_once}
use Rattle.rules.proofs.Kept.Rules.{reads}

-- ---- places
-- a part that begins at its i-th byte, as the machine reckons it
pub part-further : (area : ℕ × ℕ) (i n : ℕ) → i ≡ n → Path (ℕ × ℕ) (area.0, i + area.1) (further area n)
part-further area i n e =
    let z : i + area.1 ≡ area.1 + n = omega (arith, e) in
    ap (λ (o : ℕ). (area.0, o)) z

-- ---- the rules
module _ (k : Caps) (s : State) where
  -- the part is that of the area at the offset and of the length that are answered
  show_area : (ruled show_entry k s).ans ≡ take (ruled shown_entry k s).ans.length (drop (ruled shown_entry k s).ans.offset (s PAYLOAD))
  unfolding ruled
  show_area = split (eqb (runner s) 0) (λ q. rw q) (λ q. split (eqb (at s HAND (runner s - 1)) 0) (λ h. rw (q, h)) (λ h. rw (q, h)))

  -- "from its entry's fifth byte": beside 0 the offset is that of the entry in hand, past its header
  pub shown_fifth : (ruled shown_entry k s).ans.no ≡ 0 → (ruled shown_entry k s).ans.offset ≡ ENTRY-BYTES * (at s HAND (runner s - 1) - 1) + HEADER-BYTES
  unfolding ruled
  shown_fifth e =
      split (eqb (runner s) 0)
      (λ q. let z : 4 ≡ 0 = rw q at e in omega (arith, z))
      (λ q. split (eqb (at s HAND (runner s - 1)) 0) (λ h. let z : 3 ≡ 0 = rw (q, h) at e in omega (arith, z)) (λ h. rw (q, h)))

  module _ (g : Good k s) where
    -- what is answered lies in the area
    shown_within : (ruled shown_entry k s).ans.offset + (ruled shown_entry k s).ans.length ≤ ENTRY-BYTES * k.datas
    unfolding ruled
    shown_within =
        split (eqb (runner s) 0)
        (λ q. rw q (omega arith))
        (λ q. split (eqb (at s HAND (runner s - 1)) 0) (λ h. rw (q, h) (omega arith)) (λ h. let d = at s HAND (runner s - 1) in
        rw (q, h) (omega (arith, hand_fits g (runner s - 1), eqb-false d 0 h, length-fits g (d - 1)))))

    -- so the part is as long as is answered
    pub show_long : length (ruled show_entry k s).ans ≡ (ruled shown_entry k s).ans.length
    show_long =
        let n = (ruled shown_entry k s).ans.length in
        let o = (ruled shown_entry k s).ans.offset in
        let d : length (drop o (s PAYLOAD)) ≡ length (s PAYLOAD) - o = length-drop o (s PAYLOAD) in
        ap length show_area ∙ length-take-le n (drop o (s PAYLOAD)) (omega (arith, d, g.sized.bytes, shown_within))

-- a sound runtime is good
good_at : (w p : List ℕ) → test (sound_rule w p) ≡ true → Good (caps_of w) (view_of w p)
good_at w p t = good_of (caps_of w) (view_of w p) (view-past (caps_of w) w p) ((reads (sound_rule w p)).0 t)

-- ---- the buffers
module _ (w p : List ℕ) where
  -- what is shown of any two buffers, sound or not
  shown_part : answered show_entry w p ≡ take (answered shown_entry w p).length (drop (answered shown_entry w p).offset p)
  shown_part =
      split (test (sound_rule w p))
      (λ t. rw t (show_area (caps_of w) (view_of w p) ∙ payload-part (caps_of w) w p _ _ (shown_within (caps_of w) (view_of w p) (good_at w p t))))
      (λ t. rw t)

  -- and how long it is
  shown_length : length (answered show_entry w p) ≡ (answered shown_entry w p).length
  shown_length = split (test (sound_rule w p)) (λ t. rw t (show_long (caps_of w) (view_of w p) (good_at w p t))) (λ t. rw t)

  -- THE THEOREM of showing: on the same buffers, sound or not, `show` gives the part of the payload area at the offset and of the length that fg_shown answers
  pub show_is_shown : (r : List ℕ) (q : Shown) {w₁ p₁ w₂ p₂ : List ℕ} → Meets (op show) w p (part r) w₁ p₁ → Meets (op shown) w p (say_shown q) w₂ p₂
      → (r ≡ take q.length (drop q.offset p)) × (length r ≡ q.length)
  show_is_shown r q c d =
      let e = meets_answered show w p r c in
      let f = sym (meets_answered shown w p q d) in
      (e ∙ shown_part ∙ ap (λ (x : Shown). take x.length (drop x.offset p)) f, ap length e ∙ shown_length ∙ ap (λ (x : Shown). x.length) f)

  -- beside 0 the offset that is answered is that of the fifth byte of the entry in hand
  pub shown_offset : (q : Shown) {w₂ p₂ : List ℕ} → Meets (op shown) w p (say_shown q) w₂ p₂ → q.no ≡ 0
      → q.offset ≡ ENTRY-BYTES * (at (view_of w p) HAND (runner (view_of w p) - 1) - 1) + HEADER-BYTES
  shown_offset q d e =
      let y = meets_answered shown w p q d in
      split (test (sound_rule w p))
      (λ t. let z = rw t at y in ap (λ (x : Shown). x.offset) z ∙ shown_fifth (caps_of w) (view_of w p) (ap (λ (x : Shown). x.no) (sym z) ∙ e))
      (λ t. let n : 7 ≡ 0 = ap (λ (x : Shown). x.no) (sym (rw t at y)) ∙ e in omega (arith, n))

  -- it begins in the area where fg_shown answers, so a payload in hand, an empty one too, is shown from there
  pub shown_entry_lem : (area : ℕ × ℕ) (q : Shown) {w₂ p₂ : List ℕ} → Meets (op shown) w p (say_shown q) w₂ p₂ → q.no ≡ 0
      → shown_at area w p ≡ further area (ENTRY-BYTES * (at (view_of w p) HAND (runner (view_of w p) - 1) - 1) + HEADER-BYTES)
  shown_entry_lem area q d e = ap (λ (x : Shown). further area x.offset) (sym (meets_answered shown w p q d)) ∙ ap (further area) (shown_offset q d e)

  -- `show` itself: the test said yes, and the part begins where the rule answers
  pub shown_yes : (area : ℕ × ℕ) {b : Bool} {k : Caps} {x : ℕ × ℕ} → b ≡ test (sound_rule w p) → b ≡ true → k ≡ caps_of w
      → x ≡ further area (ruled shown_entry k (view k w p)).ans.offset → x ≡ shown_at area w p
  shown_yes area e q z a = let t = sym e ∙ q in rw t (a ∙ ap (λ (j : Caps). further area (ruled shown_entry j (view j w p)).ans.offset) z)

  -- it said no: the area's first byte
  pub shown_no : (area : ℕ × ℕ) {b : Bool} → b ≡ test (sound_rule w p) → b ≡ false → Path (ℕ × ℕ) (area.0, 0 + area.1) (shown_at area w p)
  shown_no area e q = let t = sym e ∙ q in rw t (part-further area 0 0 refl)

  -- FIRMNESS of showing: no second part, and no second place of it, meets the promise of `show`
  pub show-once : (area : ℕ × ℕ) (r r₂ : Bor (List ℕ)) {w₁ p₁ w₂ p₂ : List ℕ} → Meets (op show) w p (part r.now) w₁ p₁ × (r.ref_ptr ≡ shown_at area w p)
      → Meets (op show) w p (part r₂.now) w₂ p₂ × (r₂.ref_ptr ≡ shown_at area w p) → (r.now ≡ r₂.now) × (r.ref_ptr ≡ r₂.ref_ptr)
  show-once area r r₂ c d = (struct_once show w p r.now r₂.now c.0 d.0, c.1 ∙ sym d.1)
