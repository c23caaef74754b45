-- Facts on bare columns that the message actions turn on: free bits, data entries, an entry of the payload read back.
use Prim.Native.Nat.{ℕ, ◌+◌, ◌-◌, ◌*◌, ◌/◌, ◌^◌, ◌≤◌, ◌<◌}
use native.Mathlib.Omega.{arith}
use mathlib.Core.Path.{◌≡◌, refl, sym, ap, ◌∙◌}
use mathlib.Core.Bool.{true, false, not}
use mathlib.Core.List.{List, ◌++◌, append_assoc}
use lib.ListN.{length, get_or, set, take, drop, replicate, length-append, length-drop, length-replicate, get_or-replicate}
use lib.Seq.{get_or-take, get_or-drop, take-take, take_at, drop_at, drop-drop, get_or-append-add, length-take-le, ext_get_or, sets, length-sets}
use lib.Dec.{eqb}
use borrow.Author.Tests.{eqb-false, not-true}
use Rattle.pools.specs.Bits.{WORD-BITS, free, taken, released}
use Rattle.pools.proofs.BoolLaws.{true_false}
use Rattle.pools.proofs.ListLaws.{part-take}
use Rattle.pools.proofs.FreeLaws.{released-other, released-same, taken-other}
use Rattle.records.specs.Bytes.{le, of_le}
use Rattle.records.specs.Header.{class_of}
use Rattle.tables.proofs.LoopLaws.{sets_apart, sets_within, sets_zeros}
use Rattle.records.proofs.ByteLaws.{length-le, of_le-le}
use Rattle.tables.specs.Limits.{ENTRY-BYTES, HEADER-BYTES, PAYLOAD-MOST}
use Rattle.tables.specs.Sizes.{COLUMN-BITS}
use Rattle.rules.specs.Rule.{Holds}
use Rattle.rules.specs.Terms.{header_at}
use Rattle.rules.specs.Sound.{bits_rule, header_rule, length_rule, sender_rule, zeros}
use Rattle.rules.proofs.Lists.Columns.{each_set, other, set-zero}

-- ---- the bytes of a data entry
abbrev pub bytes_at : List ℕ → ℕ → List ℕ
bytes_at p d = take ENTRY-BYTES (drop (ENTRY-BYTES * d) p)

module _ (p : List ℕ) (d : ℕ) where
  -- the header is read from the entry's bytes
  pub header-bytes : header_at p d ≡ of_le (take 4 (bytes_at p d))
  unfolding header_at
  header-bytes = ap of_le (sym (take-take 4 ENTRY-BYTES (drop (ENTRY-BYTES * d) p) (omega arith)))

  -- so is each byte
  pub byte-bytes : (j : ℕ) → j < ENTRY-BYTES → get_or p (ENTRY-BYTES * d + j) 0 ≡ get_or (bytes_at p d) j 0
  byte-bytes j h = sym (get_or-take ENTRY-BYTES (drop (ENTRY-BYTES * d) p) j 0 h ∙ get_or-drop (ENTRY-BYTES * d) p j 0)

  -- and the payload
  pub text_bytes : (n : ℕ) → n ≤ PAYLOAD-MOST → take n (drop (ENTRY-BYTES * d + HEADER-BYTES) p) ≡ take n (drop 4 (bytes_at p d))
  text_bytes n h = ap (take n) (sym (drop-drop 4 (ENTRY-BYTES * d) p)) ∙ sym (part-take 4 n ENTRY-BYTES (drop (ENTRY-BYTES * d) p) (omega arith))

module _ (p q : List ℕ) (d : ℕ) (e : bytes_at q d ≡ bytes_at p d) where
  -- an entry with the same bytes has the same header
  pub header-same : header_at q d ≡ header_at p d
  header-same = header-bytes q d ∙ ap (λ (l : List ℕ). of_le (take 4 l)) e ∙ sym (header-bytes p d)

  -- the same payload
  pub text_same : (n : ℕ) → n ≤ PAYLOAD-MOST → take n (drop (ENTRY-BYTES * d + HEADER-BYTES) q) ≡ take n (drop (ENTRY-BYTES * d + HEADER-BYTES) p)
  text_same n h = text_bytes q d n h ∙ ap (λ (l : List ℕ). take n (drop 4 l)) e ∙ sym (text_bytes p d n h)

  -- and the same zeros
  pub zeros-same : (from n : ℕ) → from + n ≤ ENTRY-BYTES → Holds (zeros p (ENTRY-BYTES * d + from) n) → Holds (zeros q (ENTRY-BYTES * d + from) n)
  unfolding zeros
  zeros-same from n h z i l =
      let a : ENTRY-BYTES * d + from + i ≡ ENTRY-BYTES * d + (from + i) = omega arith in
      rw a (byte-bytes q d (from + i) (omega arith) ∙ ap (λ (l : List ℕ). get_or l (from + i) 0) e ∙ sym (byte-bytes p d (from + i) (omega arith)) ∙ rw a at (z i l))

-- an entry of zeros with the same bytes
pub blank-same : (p q : List ℕ) (d : ℕ) → bytes_at q d ≡ bytes_at p d → Holds (zeros p (ENTRY-BYTES * d) ENTRY-BYTES) → Holds (zeros q (ENTRY-BYTES * d) ENTRY-BYTES)
unfolding zeros
blank-same p q d e z i l = byte-bytes q d i l ∙ ap (λ (l : List ℕ). get_or l i 0) e ∙ sym (byte-bytes p d i l) ∙ z i l

-- ---- free bits of entries
module _ (n : ℕ) (bits : List ℕ) (e : ℕ) (l : e < n) (h : (d : ℕ) → d < COLUMN-BITS → Holds (bits_rule n bits d)) where
  -- no bit past the entries once one is released
  pub bits_free : (d : ℕ) → d < COLUMN-BITS → Holds (bits_rule n (released bits e) d)
  bits_free d m g = rw (released-other bits e d (λ q. omega arith)) (h d m g)

  -- and once one is taken
  pub bits_take : (d : ℕ) → d < COLUMN-BITS → Holds (bits_rule n (taken bits e) d)
  bits_take d m g = rw (taken-other bits e d (λ q. omega arith)) (h d m g)

-- ---- data entries, over their columns: free bits, senders, lengths, buses of values, payload, and the actors' ages
-- the bytes past the payload are 0
abbrev pub TailAt : List ℕ → List ℕ → ℕ → Type 0
TailAt ln p e = Holds (zeros p (ENTRY-BYTES * e + (HEADER-BYTES + get_or ln e 0)) (PAYLOAD-MOST - get_or ln e 0))

-- one is all zero where it is free; else it holds a message, or a bus's value
abbrev pub DataAt : List ℕ → List ℕ → List ℕ → List ℕ → List ℕ → List ℕ → ℕ → Type 0
DataAt df sn ln vb p ages e =
    (free df e ≡ true → ((get_or sn e 0 ≡ 0) × (get_or ln e 0 ≡ 0)) × Holds (zeros p (ENTRY-BYTES * e) ENTRY-BYTES))
    × (not (free df e) ≡ true →
    (get_or vb e 0 ≡ 0 →
    (Holds (header_rule (header_at p e)) × Holds (length_rule (class_of (header_at p e)) (get_or ln e 0)))
    × (Holds (sender_rule ages (class_of (header_at p e)) (get_or sn e 0)) × TailAt ln p e))
    × ((get_or vb e 0 ≡ 0 → ⊥) → ((header_at p e ≡ 0) × (get_or sn e 0 ≡ 0)) × ((get_or ln e 0 ≤ PAYLOAD-MOST) × TailAt ln p e)))

-- an entry of which nothing changed
data_same : (df df' sn sn' ln ln' vb vb' p p' ages : List ℕ) (e : ℕ) → free df' e ≡ free df e → get_or sn' e 0 ≡ get_or sn e 0 → get_or ln' e 0 ≡ get_or ln e 0 →
    get_or vb' e 0 ≡ get_or vb e 0 → bytes_at p' e ≡ bytes_at p e → DataAt df sn ln vb p ages e → DataAt df' sn' ln' vb' p' ages e
data_same df df' sn sn' ln ln' vb vb' p p' ages e f n m v b h =
    rw (f, n, m, v, header-same p p' e b) (
      λ u. let r = h.0 u in (r.0, blank-same p p' e b r.1),
      λ u. let (message, value) = h.1 u in
          (λ z. let r = message z in (r.0, (r.1.0, tail r.0.1.0 r.1.1)), λ z. let r = value z in (r.0, (r.1.0, tail r.1.0 r.1.1))),
    )
  where
    -- the bytes past its payload
    tail : get_or ln e 0 ≤ PAYLOAD-MOST → TailAt ln p e → TailAt ln p' e
    tail l z = zeros-same p p' e b (4 + get_or ln e 0) (PAYLOAD-MOST - get_or ln e 0) (omega arith) z

-- a payload area in which entry d is wiped, and nothing else changed
pub record Wiped (p q : List ℕ) (d : ℕ) : Type 0 where
  pub long : length q ≡ length p
  pub blank : Holds (zeros q (ENTRY-BYTES * d) ENTRY-BYTES)
  pub apart : (e : ℕ) → eqb e d ≡ false → bytes_at q e ≡ bytes_at p e

-- ---- data entry d is written, and its bus at most: every entry is sound
module _ (df sn ln vb vb' p q ages : List ℕ) (d : ℕ) (same : (e : ℕ) → eqb e d ≡ false → get_or vb' e 0 ≡ get_or vb e 0) where
  -- it is freed
  pub datas-free : d / WORD-BITS < length df → Wiped p q d → (e : ℕ) → DataAt df sn ln vb p ages e → DataAt (released df d) (set sn d 0) (set ln d 0) vb' q ages e
  datas-free l w e h =
      let f = released-same df d l in
      each_set (DataAt (released df d) (set sn d 0) (set ln d 0) vb' q ages) d e
      (λ u. ((set-zero sn d, set-zero ln d), w.blank), λ u. true_false (free (released df d) d) f (not-true (free (released df d) d) u))
      (λ r. data_same df (released df d) sn (set sn d 0) ln (set ln d 0) vb vb' p q ages e
      (released-other df d e (eqb-false e d r)) (other sn d 0 e r) (other ln d 0 e r) (same e r) (w.apart e r) h)

  -- it is taken, and is itself sound
  pub datas-take : (sender n : ℕ) → ((e : ℕ) → eqb e d ≡ false → bytes_at q e ≡ bytes_at p e) → DataAt (taken df d) (set sn d sender) (set ln d n) vb' q ages d →
      (e : ℕ) → DataAt df sn ln vb p ages e → DataAt (taken df d) (set sn d sender) (set ln d n) vb' q ages e
  datas-take sender n apart own e h =
      each_set (DataAt (taken df d) (set sn d sender) (set ln d n) vb' q ages) d e own
      (λ r. data_same df (taken df d) sn (set sn d sender) ln (set ln d n) vb vb' p q ages e
      (taken-other df d e (eqb-false e d r)) (other sn d sender e r) (other ln d n e r) (same e r) (apart e r) h)

-- ---- what is stored in an entry
-- a payload area in which entry d, all zero before, holds a message, and nothing else changed
pub record Written (p q : List ℕ) (d h : ℕ) (m : List ℕ) : Type 0 where
  pub long : length q ≡ length p
  pub header : header_at q d ≡ h
  pub text : take (length m) (drop (ENTRY-BYTES * d + HEADER-BYTES) q) ≡ m
  pub past : Holds (zeros q (ENTRY-BYTES * d + (HEADER-BYTES + length m)) (PAYLOAD-MOST - length m))
  pub apart : (e : ℕ) → eqb e d ≡ false → bytes_at q e ≡ bytes_at p e

-- a header and a payload stored from byte 0 of a free entry on are a message
pub written : (p m : List ℕ) (d h : ℕ) → ENTRY-BYTES * d + ENTRY-BYTES ≤ length p → h < 2 ^ 32 → length m ≤ PAYLOAD-MOST → Holds (zeros p (ENTRY-BYTES * d) ENTRY-BYTES) →
    Written p (sets p (ENTRY-BYTES * d + 0) (le 4 h ++ m)) d h m
unfolding zeros
written p m d h l s f z =
    let x : List ℕ = le 4 h ++ m in
    let q : List ℕ = sets p (ENTRY-BYTES * d + 0) x in
    let n : length x ≡ 4 + length m = length-append (le 4 h) m ∙ ap (λ (n : ℕ). n + length m) (length-le 4 h) in
    let b : length (bytes_at p d) ≡ ENTRY-BYTES = length-take-le ENTRY-BYTES (drop (ENTRY-BYTES * d) p) (rw length-drop (omega arith)) in
    let r : length (replicate {A = ℕ} ENTRY-BYTES 0) ≡ ENTRY-BYTES = length-replicate {A = ℕ} ENTRY-BYTES 0 in
    let e : bytes_at p d ≡ replicate ENTRY-BYTES 0 = ext_get_or 0 (bytes_at p d) (replicate ENTRY-BYTES 0) (b ∙ sym r)
    (λ i o. sym (byte-bytes p d i (omega arith)) ∙ z i (omega arith) ∙ sym (get_or-replicate {A = ℕ} ENTRY-BYTES i 0 0 (omega arith))) in
    let y : bytes_at q d ≡ x ++ replicate (ENTRY-BYTES - length x) 0 =
    sets_within p (ENTRY-BYTES * d) ENTRY-BYTES 0 x (omega arith) ∙ ap (λ (l : List ℕ). sets l 0 x) e ∙ sets_zeros ENTRY-BYTES x (omega arith) in
    let parts : bytes_at q d ≡ le 4 h ++ (m ++ replicate (ENTRY-BYTES - length x) 0) = y ∙ append_assoc (le 4 h) m _ in
    record {
      long = length-sets p (ENTRY-BYTES * d + 0) x;
      header = header-bytes q d ∙ ap (λ (l : List ℕ). of_le (take 4 l)) parts ∙ ap of_le (take_at (le 4 h) _ 4 (length-le 4 h)) ∙ of_le-le 4 h s;
      text = text_bytes q d (length m) f ∙ ap (λ (l : List ℕ). take (length m) (drop 4 l)) parts
          ∙ rw (drop_at (le 4 h) (m ++ replicate (ENTRY-BYTES - length x) 0) 4 (length-le 4 h)) (take_at m _ (length m) refl);
      past = λ i l.
          let a : ENTRY-BYTES * d + (HEADER-BYTES + length m) + i ≡ ENTRY-BYTES * d + (length x + i) = omega (arith, n) in
          rw a (byte-bytes q d (length x + i) (omega (arith, n)) ∙ ap (λ (l : List ℕ). get_or l (length x + i) 0) y
          ∙ get_or-append-add x _ i 0 ∙ get_or-replicate {A = ℕ} (ENTRY-BYTES - length x) i 0 0 (omega (arith, n)));
      apart = λ e q. sets_apart p (ENTRY-BYTES * e) ENTRY-BYTES (ENTRY-BYTES * d + 0) x (λ j i b o r. eqb-false e d q (omega arith));
    }
