-- The state in its two buffers: what a store, a part lent and a list written leave, for every column at once.
use Prim.Native.Nat.{ℕ, zero, suc, ◌+◌, ◌-◌, ◌*◌, ◌≤◌, ◌<◌}
use native.Mathlib.Nat.{le_of_suc-le-suc, zero-add, add-zero}
use native.Mathlib.Omega.{arith}
use mathlib.Core.Path.{◌≡◌, sym, ap, ◌∙◌, fun_ext}
use mathlib.Core.Bool.{false}
use mathlib.Core.List.{List, [], ◌++◌, append_assoc, append-nil}
use lib.ListN.{length, get_or, set, take, drop, replicate, length-replicate, length-set, length-take, drop_of_length-le, get_or-eq_default}
use lib.Seq.{set_out, get_or-take, take_all, drop-drop, sets, length-sets, paste, length-paste}
use lib.Dec.{eqb, ltb}
use borrow.Author.Tests.{eqb-true, eqb-false, ne_eqb, ltb-true, ltb-false, lt-ltb, le-ltb}
use Rattle.pools.proofs.BoolLaws.{split}
use Rattle.pools.proofs.ListLaws.{part-take}
use Rattle.tables.specs.Limits.{ENTRY-BYTES, WORDS-MOST}
use Rattle.tables.specs.declared.Caps.{Caps}
use Rattle.tables.specs.Columns.{PAST, PAYLOAD, REST}
use Rattle.tables.specs.State.{InRange, Left, PastSame, Room, Sized, State, cut, glue, join_p, join_w, needed, needed_p, poke, size, sizes, sizes_p, start, sum, view, with_col}
use Rattle.tables.specs.Action.{write, blank}
use Rattle.tables.proofs.LoopLaws.{sets_paste}
use Rattle.tables.proofs.RowLaws.{cut-put, cut_short, ends-all, cut-full, full-cut, glue-cut, cut-glue, drop-glue, length-glue, cut-past, take_pasted, drop_pasted, cut_paste, cut-first}

-- ---- this runtime's columns
-- the formula of words needed is the sum of the columns' sizes
pub needed-sum : (k : Caps) → sum (sizes k) ≡ needed k
needed-sum k = omega arith

-- "at most 4,096"
pub needed-few : (k : Caps) → InRange k → needed k ≤ WORDS-MOST
needed-few k r = omega arith

module _ (k : Caps) (w p : List ℕ) where
  -- a word column, whatever the bytes
  pub view-word : (c : ℕ) → c < PAYLOAD → view k w p c ≡ cut (sizes k) w c
  unfolding view
  view-word c h = rw (lt-ltb c PAYLOAD h)

  -- THE LAW of stores: at an address m in column c
  pub view-put : (c i v m : ℕ) → m ≡ start k c + i → i < size k c → c < REST → view k (set w m v) p ≡ poke (view k w p) c i v
  unfolding view with_col poke
  view-put c i v m e h l = rw e (fun_ext (λ d.
      split (ltb d PAYLOAD)
      (λ q. rw (q, cut-put (sizes k) w c i v h d, lt-ltb c PAYLOAD (omega arith)))
      (λ q. let n : eqb d c ≡ false = ne_eqb d c (λ z. omega (arith, ltb-false d PAYLOAD q)) in rw (q, n))))

  -- a store past its size does nothing to a column
  pub view-put_out : (c i v : ℕ) → c < REST → size k c ≤ i → view k w p ≡ poke (view k w p) c i v
  unfolding with_col poke
  view-put_out c i v l h = fun_ext (λ d. split (eqb d c)
      (λ q. rw (q, eqb-true d c q) (sym (set_out (view k w p c) i v (rw (view-word c (omega arith)) (omega (arith, cut_short (sizes k) w c l))))))
      (λ q. rw q))

  -- the first n words of a column lie within the table
  pub within : (c n : ℕ) → Room k w p → n ≤ size k c → start k c + n ≤ length w
  within c n r h = omega (arith, r.words, needed-sum k, ends-all (sizes k) c)

  -- each column has its size where the table has room
  pub view-full : needed k ≤ length w → (c : ℕ) → c < REST → length (view k w p c) ≡ size k c
  view-full h c l = rw (view-word c (omega arith)) (cut-full (sizes k) w (omega (arith, needed-sum k)) c l)

  -- a table in which each column has its size has room for them
  pub full-view : ((c : ℕ) → c < REST → length (view k w p c) ≡ size k c) → needed k ≤ length w
  full-view h = rw (← needed-sum k) (full-cut (sizes k) w (λ c l. ap length (sym (view-word c (omega arith))) ∙ h c l))

  -- the payload has its size where its buffer has room
  pub view_full_p : ENTRY-BYTES * k.datas ≤ length p → length (view k w p PAYLOAD) ≡ ENTRY-BYTES * k.datas
  unfolding view
  view_full_p h = cut-full (sizes_p k) p (omega arith) 0 (omega arith)

  -- and the buffer has room where the payload has its size
  pub full_view_p : length (view k w p PAYLOAD) ≡ ENTRY-BYTES * k.datas → ENTRY-BYTES * k.datas ≤ length p
  unfolding view cut
  full_view_p e = omega (arith, length-take (ENTRY-BYTES * k.datas) p)

  -- nothing is lost
  pub join-view : (join_w (view k w p) ≡ w) × (join_p (view k w p) ≡ p)
  unfolding join_w join_p view glue
  join-view = (glue-cut (sizes k) w, glue-cut (sizes_p k) p)

-- there is no column past the last one
pub view-past : (k : Caps) (w p : List ℕ) (c : ℕ) → PAST < c → view k w p c ≡ []
unfolding view
view-past k w p c l = rw (le-ltb c PAYLOAD (omega arith)) (cut-past (sizes_p k) p (c - PAYLOAD) (omega arith))

-- the sizes of the columns of the payload buffer, in their row
sized-bytes : (k : Caps) (s : State) → Sized k s → (d : ℕ) → d < 1 → length (s (PAYLOAD + d)) ≡ get_or (sizes_p k) d 0
sized-bytes k s z zero l = z.bytes
sized-bytes k s z (suc d) l = absurd (omega arith)

-- a state that lies in buffers is what is seen in its own
pub view-join : (k : Caps) (s : State) → Sized k s → view k (join_w s) (join_p s) ≡ s
unfolding view join_w join_p
view-join k s z = fun_ext (λ c.
    split (ltb c PAYLOAD)
    (λ q. rw q (cut-glue (sizes k) s z.words c (le_of_suc-le-suc (ltb-true c PAYLOAD q))))
    (λ q. rw q (split (ltb c (suc PAST))
    (λ r. cut-glue (sizes_p k) (λ d. s (PAYLOAD + d)) (sized-bytes k s z) (c - PAYLOAD) (omega (arith, ltb-true c (suc PAST) r)) ∙ ap s (omega (arith, ltb-false c PAYLOAD q)))
    (λ r. cut-past (sizes_p k) (glue 1 (λ d. s (PAYLOAD + d))) (c - PAYLOAD) (omega (arith, ltb-false c (suc PAST) r)) ∙ sym (z.past c (ltb-false c (suc PAST) r))))))

-- in its buffers the columns past the needed words and bytes are what is past them
pub join-past : (k : Caps) (s : State) → Sized k s →
    (length (join_w s) ≡ needed k + length (s REST)) × (length (join_p s) ≡ needed_p k + length (s PAST)) × (drop (needed k) (join_w s) ≡ s REST) × (drop (needed_p k) (join_p s) ≡ s PAST)
unfolding join_w join_p
join-past k s z = (
  omega (arith, length-glue (sizes k) s z.words, needed-sum k),
  omega (arith, length-glue (sizes_p k) (λ d. s (PAYLOAD + d)) (sized-bytes k s z)),
  ap (λ (n : ℕ). drop n (glue REST s)) (sym (needed-sum k)) ∙ drop-glue (sizes k) s z.words,
  ap (λ (n : ℕ). drop n (glue 1 (λ d. s (PAYLOAD + d)))) (sym (add-zero (needed_p k))) ∙ drop-glue (sizes_p k) (λ d. s (PAYLOAD + d)) (sized-bytes k s z),
)

-- THE LAW: a state that has what is past the needed words and bytes from two buffers leaves it there, and both as long as they were
pub past_same : (k : Caps) (w p : List ℕ) (s : State) → Sized k (view k w p) → Sized k s → (s REST ≡ view k w p REST) × (s PAST ≡ view k w p PAST) → PastSame k w p (join_w s) (join_p s)
past_same k w p s v z e =
    let i = join-view k w p in
    let a = join-past k (view k w p) v in
    let b = join-past k s z in (
      omega (arith, ap length i.0, ap length e.0, a.0, b.0),
      omega (arith, ap length i.1, ap length e.1, a.1, b.1),
      b.2 ∙ e.0 ∙ sym a.2 ∙ ap (drop (needed k)) i.0,
      b.3 ∙ e.1 ∙ sym a.3 ∙ ap (drop (needed_p k)) i.1,
    )

-- what is seen in buffers with room lies in buffers
pub sized-view : (k : Caps) (w p : List ℕ) → Room k w p → Sized k (view k w p)
sized-view k w p r = record { words = view-full k w p r.words; bytes = view_full_p k w p r.bytes; past = view-past k w p }

-- a store leaves the room that there was
pub room_set : (k : Caps) (w p : List ℕ) (m v : ℕ) → Room k w p → Room k (set w m v) p
room_set k w p m v r = record { caps = r.caps; words = rw length-set r.words; bytes = r.bytes }

module _ (k : Caps) (w p : List ℕ) (r : Room k w p) (l : List ℕ) where
  -- THE LAW of a list written into a column: what a call that was lent a part of it leaves
  pub view_paste : (c i n m : ℕ) → m ≡ start k c + i → c < REST → i + n ≤ size k c → n ≤ length l → view k (paste w m l n) p ≡ with_col (view k w p) c (paste (view k w p c) i l n)
  unfolding view with_col
  view_paste c i n m e b h g = rw e (fun_ext (λ d.
      split (ltb d PAYLOAD)
      (λ q. rw (q, cut_paste (sizes k) w l c i n b h (rw (needed-sum k) r.words) g d, lt-ltb c PAYLOAD (omega arith)))
      (λ q. let z : eqb d c ≡ false = ne_eqb d c (λ z. omega (arith, ltb-false d PAYLOAD q)) in rw (q, z))))

  -- and into the payload
  pub view_paste_p : (i n : ℕ) → i + n ≤ ENTRY-BYTES * k.datas → n ≤ length l → view k w (paste p i l n) ≡ with_col (view k w p) PAYLOAD (paste (view k w p PAYLOAD) i l n)
  unfolding view with_col cut
  view_paste_p i n h g = fun_ext (λ d.
      split (ltb d PAYLOAD)
      (λ q. let e : eqb d PAYLOAD ≡ false = ne_eqb d PAYLOAD (λ z. omega (arith, ltb-true d PAYLOAD q)) in rw (q, e))
      (λ q. split (eqb d PAYLOAD)
      (λ e. rw (q, e, eqb-true d PAYLOAD e) (take_pasted p l i n (ENTRY-BYTES * k.datas) h r.bytes g))
      (λ e. let z : d - PAYLOAD ≡ suc (d - PAST) = omega (arith, ltb-false d PAYLOAD q, eqb-false d PAYLOAD e) in rw (q, e, z) (ap (λ x. cut [] x (d - PAST)) (drop_pasted p l i n (ENTRY-BYTES * k.datas) h r.bytes g)))))

-- a list written over a part leaves the room that there was
pub room_paste : (k : Caps) (w p l : List ℕ) (m n : ℕ) → m + n ≤ length w → n ≤ length l → Room k w p → Room k (paste w m l n) p
room_paste k w p l m n h g r = record { caps = r.caps; words = rw (length-paste w m l n h g) r.words; bytes = r.bytes }

-- ---- the payload
-- a part of the area is that part of the buffer
pub payload-part : (k : Caps) (w p : List ℕ) (m n : ℕ) → m + n ≤ ENTRY-BYTES * k.datas → take n (drop m (view k w p PAYLOAD)) ≡ take n (drop m p)
unfolding view cut
payload-part k w p m n h = part-take m n (ENTRY-BYTES * k.datas) p h

module _ (k : Caps) (w p : List ℕ) (r : Room k w p) where
  -- a byte of the area
  pub view_get_p : (i : ℕ) → i < ENTRY-BYTES * k.datas → get_or (view k w p PAYLOAD) i 0 ≡ get_or p i 0
  unfolding view cut
  view_get_p i h = get_or-take (ENTRY-BYTES * k.datas) p i 0 h

  -- past the area there is none
  pub view_out_p : (i : ℕ) → ENTRY-BYTES * k.datas ≤ i → get_or (view k w p PAYLOAD) i 0 ≡ 0
  view_out_p i h = get_or-eq_default (view k w p PAYLOAD) 0 (omega (arith, view_full_p k w p r.bytes))

  -- bytes stored one after the other among the first ones of the area
  pub view_sets : (i : ℕ) (m : List ℕ) → i + length m ≤ ENTRY-BYTES * k.datas → view k w (sets p i m) ≡ with_col (view k w p) PAYLOAD (sets (view k w p PAYLOAD) i m)
  view_sets i m h = rw (sets_paste p i m (omega (arith, r.bytes)), sets_paste (view k w p PAYLOAD) i m (omega (arith, view_full_p k w p r.bytes))) (view_paste_p k w p r m i (length m) h (omega arith))

  -- bytes written into an entry
  pub write-left : (d i : ℕ) (m : List ℕ) → d < k.datas → i + length m ≤ ENTRY-BYTES → Left k (write (view k w p) d i m) w (sets p (ENTRY-BYTES * d + i) m)
  unfolding write
  write-left d i m l h = record {
    is = view_sets (ENTRY-BYTES * d + i) m (omega arith);
    room = record { caps = r.caps; words = r.words; bytes = rw (length-sets p (ENTRY-BYTES * d + i) m) r.bytes };
  }

  -- zeros written over an entry's first n bytes
  zeros-left : (d n : ℕ) → d < k.datas → n ≤ ENTRY-BYTES → Left k (write (view k w p) d 0 (replicate n 0)) w (sets p (ENTRY-BYTES * d) (replicate n 0))
  zeros-left d n l h =
      let e : length (replicate {A = ℕ} n 0) ≡ n = length-replicate n 0 in
      rw (add-zero (ENTRY-BYTES * d)) at (write-left d 0 (replicate n 0) l (omega arith))

  -- and over all of them
  pub blank-left : (d : ℕ) → d < k.datas → Left k (blank (view k w p) d) w (sets p (ENTRY-BYTES * d) (replicate ENTRY-BYTES 0))
  blank-left d l = zeros-left d ENTRY-BYTES l (omega arith)

-- ---- a part of a column lent to a call
module _ (k : Caps) (w p : List ℕ) (r : Room k w p) (c s n e : ℕ) (b : c < REST) (z : s ≡ start k c) (h : e ≡ s + n) where
  -- what it is lent: the first n words of the column
  pub part-lent : n ≤ size k c → take (e - s) (drop s w) ≡ take n (view k w p c)
  part-lent g =
      let m : e - s ≡ n = omega arith in
      rw (m, z, view-word k w p c (omega arith)) (cut-first (sizes k) w c n b g)

  -- and all of them where n is its size
  pub column-lent : n ≡ size k c → take (e - s) (drop s w) ≡ view k w p c
  column-lent g = part-lent (omega arith) ∙ take_all n (view k w p c) (omega (arith, view-full k w p r.words c b))

  -- what it leaves, where it leaves a list l of the same length there: the column begins with l
  pub part_left : (l : List ℕ) → n ≤ size k c → length l ≡ n → Left k (with_col (view k w p) c (l ++ drop n (view k w p c))) (take s w ++ (l ++ drop (e - s) (drop s w))) p
  part_left l g q =
      let m : e - s ≡ n = omega arith in
      let t : take n l ≡ l = take_all n l (omega arith) in
      let i : s ≡ start k c + 0 = omega arith in
      let f : s + n ≤ length w = omega (arith, within k w p c n r g) in
      let v : view k (paste w s l n) p ≡ with_col (view k w p) c (paste (view k w p c) 0 l n) = view_paste k w p r l c 0 n s i b (omega arith) (omega arith) in
      let u : paste w s l n ≡ take s w ++ (l ++ drop (e - s) (drop s w)) = rw (m, drop-drop n s w, t) (append_assoc (take s w) l (drop (s + n) w)) in
      record { is = rw (u, t, zero-add n) at v; room = rw u at (room_paste k w p l s n f (omega arith) r) }

  -- a whole column lent and left as another list of its length
  pub column-left : (f : List ℕ → List ℕ) → ((l : List ℕ) → length (f l) ≡ length l) → n ≡ size k c
      → Left k (with_col (view k w p) c (f (view k w p c))) (take s w ++ (f (take (e - s) (drop s w)) ++ drop (e - s) (drop s w))) p
  column-left f q g =
      let v = view-full k w p r.words c b in
      let d : drop n (view k w p c) ≡ [] = drop_of_length-le (view k w p c) {i = n} (omega arith) in
      rw (column-lent g) (rw (d, append-nil (f (view k w p c))) at (part_left (f (view k w p c)) (omega arith) (q (view k w p c) ∙ omega arith)))
