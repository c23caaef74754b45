-- Buffers whose needed words and bytes are 0 hold the state of zeros.
use Prim.Native.Nat.{ℕ, zero, suc, ◌+◌, ◌-◌, ◌≤◌, ◌<◌}
use native.Mathlib.Nat.{le_of_suc-le-suc}
use native.Mathlib.Omega.{arith}
use mathlib.Core.Path.{◌≡◌, refl, sym, ap, ◌∙◌, fun_ext}
use mathlib.Core.List.{List, [], ◌∷◌, ◌++◌, append_assoc}
use lib.ListN.{length, get_or, take, drop, replicate, length-replicate, replicate-append-replicate, get_or-eq_default}
use lib.Seq.{sets, sets-eq, take_at, drop_at, length-sets, drop-drop}
use lib.Dec.{eqb, ltb}
use borrow.Author.Tests.{ne_eqb, lt-ltb, le-ltb, ltb-true, ltb-false, eqb-true, eqb-false}
use Rattle.pools.proofs.BoolLaws.{split}
use Rattle.tables.specs.declared.Caps.{Caps}
use Rattle.tables.specs.Columns.{PAST, PAYLOAD, REST}
use Rattle.tables.specs.State.{State, cut, poke, needed, needed_p, sizes, sizes_p, sum, view, Room}
use Rattle.tables.proofs.RowLaws.{cut-past}
use Rattle.tables.proofs.ViewLaws.{needed-sum}
use Rattle.rules.specs.Host.{ones, zeroed}

abbrev pub zeros : ℕ → List ℕ
zeros n = replicate n 0

-- a row of zeros and a rest: every column is zeros, and the rest is the last
cut-zeros : (ns r : List ℕ) (c : ℕ) → c < length ns → cut ns (zeros (sum ns) ++ r) c ≡ zeros (get_or ns c 0)
unfolding cut
cut-zeros [] r c l = absurd (omega arith)
cut-zeros (n ∷ ns) r zero l =
    ap (λ (x : List ℕ). take n (x ++ r)) (sym (replicate-append-replicate n (sum ns) 0)) ∙ ap (λ (x : List ℕ). take n x) (append_assoc (zeros n) (zeros (sum ns)) r)
    ∙ take_at (zeros n) (zeros (sum ns) ++ r) n (length-replicate n 0)
cut-zeros (n ∷ ns) r (suc c) l =
    ap (λ (x : List ℕ). cut ns (drop n (x ++ r)) c) (sym (replicate-append-replicate n (sum ns) 0)) ∙ ap (λ (x : List ℕ). cut ns (drop n x) c) (append_assoc (zeros n) (zeros (sum ns)) r)
    ∙ ap (λ (x : List ℕ). cut ns x c) (drop_at (zeros n) (zeros (sum ns) ++ r) n (length-replicate n 0)) ∙ cut-zeros ns r c (le_of_suc-le-suc l)

-- what is past the columns
cut_rest : (ns w : List ℕ) → cut ns w (length ns) ≡ drop (sum ns) w
unfolding cut
cut_rest [] w = refl
cut_rest (n ∷ ns) w = cut_rest ns (drop n w) ∙ drop-drop (sum ns) n w

-- n zeros stored from the front
pub zeros_front : (w : List ℕ) (n : ℕ) → n ≤ length w → sets w 0 (zeros n) ≡ zeros n ++ drop n w
zeros_front w n h =
    let e : length (zeros n) ≡ n = length-replicate n 0 in
    let f : 0 + length (zeros n) ≡ n = omega (arith, e) in
    sets-eq (zeros n) w 0 (omega (arith, e)) ∙ ap (λ (m : ℕ). zeros n ++ drop m w) f

zeros_rest : (w : List ℕ) (n : ℕ) → n ≤ length w → drop n (sets w 0 (zeros n)) ≡ drop n w
zeros_rest w n h = rw (zeros_front w n h) (drop_at (zeros n) (drop n w) n (length-replicate n 0))

-- THE LAW: the buffers hold the state of zeros, and what is past it is as it was
pub view-zeroed : (k : Caps) (w p : List ℕ) → Room k w p → view k (sets w 0 (zeros (needed k))) (sets p 0 (zeros (needed_p k))) ≡ zeroed k (view k w p)
unfolding view zeroed cut
view-zeroed k w p r = fun_ext (λ c.
    split (ltb c REST)
    (λ q. let l = ltb-true c REST q in
    rw (lt-ltb c PAYLOAD (omega arith), ne_eqb c REST (λ e. omega arith), ne_eqb c PAST (λ e. omega arith), ne_eqb c PAYLOAD (λ e. omega arith))
    (ap (λ (x : List ℕ). cut (sizes k) x c) (zeros_front w (needed k) r.words ∙ ap (λ (n : ℕ). zeros n ++ drop n w) (sym (needed-sum k)))
    ∙ cut-zeros (sizes k) (drop (sum (sizes k)) w) c l))
    (λ q. let l = ltb-false c REST q in
    split (eqb c REST)
    (λ e. rw (eqb-true c REST e) rest)
    (λ e. let m = eqb-false c REST e in
    split (eqb c PAYLOAD)
    (λ f. rw (eqb-true c PAYLOAD f) (ap (λ (x : List ℕ). cut (sizes_p k) x 0) (zeros_front p (needed_p k) r.bytes) ∙ payload))
    (λ f. split (eqb c PAST)
    (λ g. rw (eqb-true c PAST g) past)
    (λ g. let n : suc PAST ≤ c = omega (arith, eqb-false c PAYLOAD f, eqb-false c PAST g) in
    rw (le-ltb c PAYLOAD (omega arith), e, f, g)
    (cut-past (sizes_p k) _ (c - PAYLOAD) (omega arith) ∙ ap (λ (n : ℕ). zeros n) (sym (get_or-eq_default (sizes k) 0 l))))))))
  where
    rest : cut (sizes k) (sets w 0 (zeros (needed k))) REST ≡ cut (sizes k) w REST
    rest =
        cut_rest (sizes k) (sets w 0 (zeros (needed k))) ∙ ap (λ (n : ℕ). drop n (sets w 0 (zeros (needed k)))) (needed-sum k)
        ∙ zeros_rest w (needed k) r.words ∙ ap (λ (n : ℕ). drop n w) (sym (needed-sum k)) ∙ sym (cut_rest (sizes k) w)

    payload : cut (sizes_p k) (zeros (needed_p k) ++ drop (needed_p k) p) 0 ≡ zeros (needed_p k)
    payload = take_at (zeros (needed_p k)) (drop (needed_p k) p) (needed_p k) (length-replicate (needed_p k) 0)

    past : cut (sizes_p k) (sets p 0 (zeros (needed_p k))) 1 ≡ cut (sizes_p k) p 1
    past = zeros_rest p (needed_p k) r.bytes

-- and have room as before
pub room_zeroed : (k : Caps) (w p : List ℕ) → Room k w p → Room k (sets w 0 (zeros (needed k))) (sets p 0 (zeros (needed_p k)))
room_zeroed k w p r = record { caps = r.caps; words = rw length-sets r.words; bytes = rw length-sets r.bytes }

-- the first j words of the free bits in column c, all free
abbrev pub freed_to : ℕ → ℕ → ℕ → State → State
freed_to c n zero s = s
freed_to c n (suc j) s = poke (freed_to c n j s) c j (ones n j)
