-- Each call is read back from its record.
use Prim.Native.Nat.{ℕ, ◌+◌, ◌-◌, ◌*◌, ◌^◌, ◌<◌, ◌≤◌, min}
use mathlib.Core.Path.{◌≡◌, refl, sym, ap, ◌∙◌}
use mathlib.Core.Bool.{cond, true}
use mathlib.Core.List.{List, [], ◌++◌}
use native.Mathlib.Omega.{arith}
use lib.ListN.{length, length-append, length-replicate, replicate}
use lib.IntN.{ℤ, pos, negsuc}
use lib.Dec.{eqb, leb, ltb}
use borrow.Author.Tests.{le-leb, le-ltb, leb-false, leb-true, lt-leb, lt-ltb, ltb-false, ltb-true}
use Rattle.ledger.specs.Call.{Answer, Op, Sizes}
use Rattle.ledger.specs.Call.Answer.{plain}
use Rattle.ledger.specs.Call.Call.{start, op}
use Rattle.ledger.specs.Call.Op.{spawn, next, yield, notify, receive, show, shown, after, every, cancel, link, unlink, monitor, demonitor, exit, advance, report, bus, publish, subscribe, unsubscribe, read}
use Rattle.pools.proofs.BoolLaws.{split}
use Rattle.tables.specs.declared.Caps.{Caps}
use Rattle.tables.specs.State.{State, head}
use Rattle.tables.specs.Columns.{ISSUED}
use Rattle.tables.specs.Limits.{ANY-TAG, PAYLOAD-MOST}
use Rattle.rules.specs.Buses.{oldest_unread, unread_length, value_at}
use Rattle.rules.specs.Good.{Good}
use Rattle.rules.specs.Terms.{runner}
use Rattle.rules.specs.Calls.{entry, ruled}
use Rattle.rules.specs.Run.{step}
use Rattle.rules.proofs.Kept.Clauses.{length-fits}
use Rattle.trace.specs.Codec.{Note, Small, Stated, body, bytes, formed, front_of, text_length, words}
use Rattle.trace.specs.Kinds.{AllSigned, Fits, Signed, abridged, asked, call_of, encode, kept, length_right, note_of, opening, read_as, row_of, signed, start_args, unsigned}
use Rattle.trace.specs.Kinds.Asked.{asks, begins}
use Rattle.trace.specs.Writing.{done}
use Rattle.trace.proofs.CodecLaws.{formed-bytes, front_bytes, kind_bytes, length-words, text_bytes}

-- ---- any note
call-bytes : (n : Note) → Stated (row_of n.kind).shape n → call_of (bytes n) ≡ (row_of n.kind).call n.front n.text
unfolding call_of
call-bytes n h =
    let r = row_of n.kind in
    ap (λ (k : ℕ). read_as (row_of k) (bytes n)) (kind_bytes n h.kinds)
    ∙ ap (λ (t : List ℕ). r.call (front_of r.shape (bytes n)) t) (text_bytes r.shape n h)
    ∙ ap (λ (l : List ℕ). r.call l n.text) (front_bytes r.shape n h)

pub length-body : (n : Note) → length (body n) ≡ 8 * length n.front + (length n.text + 8 * length n.back)
length-body n = length-append (words n.front) (n.text ++ words n.back) ∙ omega (arith, length-append n.text (words n.back), length-words n.front, length-words n.back)

-- no record is longer than two bytes can say
short : (n : Note) → length n.front ≤ 8 → length n.text ≤ PAYLOAD-MOST → length n.back ≤ 7 → 2 + length (body n) < 256 ^ 2
short n f t b = omega (arith, length-body n)

-- the record of a note whose kind has this form is read back
asked-bytes : (n : Note) → Stated (row_of n.kind).shape n → length n.back ≡ (row_of n.kind).shape.aft → 2 + length (body n) < 256 ^ 2 →
    asked (bytes n) ≡ (row_of n.kind).call n.front n.text
asked-bytes n h b z =
    let e : length_right (bytes n) ≡ true = ap (λ (j : ℕ). formed (row_of j).shape (bytes n)) (kind_bytes n h.kinds) ∙ formed-bytes (row_of n.kind).shape n h b z in
    rw e (call-bytes n h)

-- ---- numbers and texts
signed-unsigned : (d : ℤ) → Signed d → signed (unsigned d) ≡ d
signed-unsigned (pos n) h = rw (lt-ltb n (2 ^ 63) h)
signed-unsigned (negsuc n) h =
    let g : 2 ^ 63 ≤ 2 ^ 64 - 1 - n = omega arith in
    let e : 2 ^ 64 - 1 - (2 ^ 64 - 1 - n) ≡ n = omega arith in
    rw (le-ltb (2 ^ 64 - 1 - n) (2 ^ 63) g, e)

pub unsigned_signed : (x : ℕ) → x < 2 ^ 64 → unsigned (signed x) ≡ x
unsigned_signed x h = split (ltb x (2 ^ 63)) (λ q. rw q) (λ q. let g = ltb-false x (2 ^ 63) q in rw q (omega arith))

pub kept_whole : (bs : List ℕ) → length bs ≤ PAYLOAD-MOST → kept bs ≡ bs
kept_whole bs h = rw (le-leb (length bs) PAYLOAD-MOST h)

pub kept_none : (bs : List ℕ) → PAYLOAD-MOST < length bs → kept bs ≡ []
kept_none bs h = rw (lt-leb (length bs) PAYLOAD-MOST h)

kept-length : (bs : List ℕ) → length (kept bs) ≡ cond (leb (length bs) PAYLOAD-MOST) (length bs) 0
kept-length bs = split (leb (length bs) PAYLOAD-MOST) (λ q. rw q) (λ q. rw q)

kept_most : (bs : List ℕ) → length (kept bs) ≤ PAYLOAD-MOST
kept_most bs = split (leb (length bs) PAYLOAD-MOST) (λ q. rw q (leb-true _ _ q)) (λ q. rw q (omega arith))

-- ---- every call
-- the note of a line of the rules has its kind and its kind's form, and its kind asks for the call
pub record Known (o : Op) (k : Caps) (s : State) : Type 0 where
  pub kinds : (done o k s).kind ≡ (opening o).kind
  pub small : (opening o).kind < 256 ^ 2
  pub fronts : length (done o k s).front ≡ (row_of (opening o).kind).shape.fore
  pub texts : length (done o k s).text ≡ text_length (row_of (opening o).kind).shape (done o k s).front
  pub backs : length (done o k s).back ≡ (row_of (opening o).kind).shape.aft
  pub size : 2 + length (body (done o k s)) < 256 ^ 2
  pub calls : AllSigned (opening o).signs → (row_of (opening o).kind).call (done o k s).front (done o k s).text ≡ asks (abridged o)

pub known : (o : Op) (k : Caps) (s : State) → Known o k s
unfolding row_of ruled
known (spawn x) k s = record { kinds = refl; small = omega arith; fronts = refl; texts = refl; backs = refl; size = short (done (spawn x) k s) (omega arith) (omega arith) (omega arith); calls = λ h. refl }
known next k s = record { kinds = refl; small = omega arith; fronts = refl; texts = refl; backs = refl; size = short (done next k s) (omega arith) (omega arith) (omega arith); calls = λ h. refl }
known yield k s = record { kinds = refl; small = omega arith; fronts = refl; texts = refl; backs = refl; size = short (done yield k s) (omega arith) (omega arith) (omega arith); calls = λ h. refl }
known (notify x y c) k s = record { kinds = refl; small = omega arith; fronts = refl; texts = kept-length c; backs = refl; size = short (done (notify x y c) k s) (omega arith) (kept_most c) (omega arith); calls = λ h. refl }
known (receive x y c d) k s = record { kinds = refl; small = omega arith; fronts = refl; texts = refl; backs = refl; size = short (done (receive x y c d) k s) (omega arith) (omega arith) (omega arith); calls = λ h. ap (λ (e : ℤ). asks (receive x y c e)) (signed-unsigned d h.0) }
known show k s = record { kinds = refl; small = omega arith; fronts = refl; texts = kept-length (ruled (entry show) k s).ans; backs = refl; size = short (done show k s) (omega arith) (kept_most (ruled (entry show) k s).ans) (omega arith); calls = λ h. refl }
known shown k s = record { kinds = refl; small = omega arith; fronts = refl; texts = refl; backs = refl; size = short (done shown k s) (omega arith) (omega arith) (omega arith); calls = λ h. refl }
known (after x) k s = record { kinds = refl; small = omega arith; fronts = refl; texts = refl; backs = refl; size = short (done (after x) k s) (omega arith) (omega arith) (omega arith); calls = λ h. refl }
known (every x) k s = record { kinds = refl; small = omega arith; fronts = refl; texts = refl; backs = refl; size = short (done (every x) k s) (omega arith) (omega arith) (omega arith); calls = λ h. refl }
known (cancel x) k s = record { kinds = refl; small = omega arith; fronts = refl; texts = refl; backs = refl; size = short (done (cancel x) k s) (omega arith) (omega arith) (omega arith); calls = λ h. refl }
known (link x) k s = record { kinds = refl; small = omega arith; fronts = refl; texts = refl; backs = refl; size = short (done (link x) k s) (omega arith) (omega arith) (omega arith); calls = λ h. refl }
known (unlink x) k s = record { kinds = refl; small = omega arith; fronts = refl; texts = refl; backs = refl; size = short (done (unlink x) k s) (omega arith) (omega arith) (omega arith); calls = λ h. refl }
known (monitor x) k s = record { kinds = refl; small = omega arith; fronts = refl; texts = refl; backs = refl; size = short (done (monitor x) k s) (omega arith) (omega arith) (omega arith); calls = λ h. refl }
known (demonitor x) k s = record { kinds = refl; small = omega arith; fronts = refl; texts = refl; backs = refl; size = short (done (demonitor x) k s) (omega arith) (omega arith) (omega arith); calls = λ h. refl }
known (exit x) k s = record { kinds = refl; small = omega arith; fronts = refl; texts = refl; backs = refl; size = short (done (exit x) k s) (omega arith) (omega arith) (omega arith); calls = λ h. refl }
known (advance x) k s = record { kinds = refl; small = omega arith; fronts = refl; texts = refl; backs = refl; size = short (done (advance x) k s) (omega arith) (omega arith) (omega arith); calls = λ h. refl }
known report k s = record { kinds = refl; small = omega arith; fronts = refl; texts = refl; backs = refl; size = short (done report k s) (omega arith) (omega arith) (omega arith); calls = λ h. refl }
known (bus x y c d) k s = record { kinds = refl; small = omega arith; fronts = refl; texts = refl; backs = refl; size = short (done (bus x y c d) k s) (omega arith) (omega arith) (omega arith); calls = λ h. refl }
known (publish x c) k s = record { kinds = refl; small = omega arith; fronts = refl; texts = kept-length c; backs = refl; size = short (done (publish x c) k s) (omega arith) (kept_most c) (omega arith); calls = λ h. refl }
known (subscribe x) k s = record { kinds = refl; small = omega arith; fronts = refl; texts = refl; backs = refl; size = short (done (subscribe x) k s) (omega arith) (omega arith) (omega arith); calls = λ h. refl }
known (unsubscribe x) k s = record { kinds = refl; small = omega arith; fronts = refl; texts = refl; backs = refl; size = short (done (unsubscribe x) k s) (omega arith) (omega arith) (omega arith); calls = λ h. refl }
known (read x y) k s = record { kinds = refl; small = omega arith; fronts = refl; texts = kept-length (ruled (entry (read x y)) k s).ans.bytes; backs = refl; size = short (done (read x y) k s) (omega arith) (kept_most (ruled (entry (read x y)) k s).ans.bytes) (omega arith); calls = λ h. refl }

-- so it is stated as its kind asks
known-stated : (o : Op) (k : Caps) (s : State) → Small (done o k s).front → Stated (row_of (done o k s).kind).shape (done o k s)
known-stated o k s f = let h = known o k s in rw h.kinds (record { fronts = h.fronts; texts = h.texts; kinds = rw h.kinds h.small; small_front = f })

-- THE CALL IS READ BACK, a payload over 252 bytes as zeros
pub read_op : (o : Op) (k : Caps) (s : State) → Fits 0 0 (op o) (step o k s).ans → asked (encode 0 0 (op o) (step o k s).ans) ≡ asks (abridged o)
unfolding encode
read_op o k s f =
    let h = known o k s in
    asked-bytes (done o k s) (known-stated o k s f.small) (rw h.kinds h.backs) h.size ∙ rw h.kinds (h.calls f.signs)

-- and so is a start
pub short-start : (w p : ℕ) (z : Sizes) (n : ℕ) → 2 + length (body (note_of w p (start z) (plain n))) < 256 ^ 2
short-start w p z n = short (note_of w p (start z) (plain n)) (omega arith) (omega arith) (omega arith)

pub read-start : (w p : ℕ) (z : Sizes) (n : ℕ) → Small (start_args w p z) → asked (encode w p (start z) (plain n)) ≡ begins w p z
unfolding encode row_of
read-start w p z n h = asked-bytes (note_of w p (start z) (plain n)) (record { fronts = refl; texts = refl; kinds = omega arith; small_front = h }) refl (short-start w p z n)

-- ---- a payload over 252 bytes: record and rule know its length alone
-- of the call that is read back all is true that is true of the call itself, if it is for two payloads that are too long and as long
module _ (P : Op → Op → Type 0) (same : (o : Op) → P o o) (notified : (a b : ℕ) (c : List ℕ) → PAYLOAD-MOST < length c → P (notify a b (replicate (length c) 0)) (notify a b c))
    (published : (a : ℕ) (c : List ℕ) → PAYLOAD-MOST < length c → P (publish a (replicate (length c) 0)) (publish a c)) where
  abridged_by : (o : Op) → P (abridged o) o
  abridged_by (notify x y c) = split (leb (length c) PAYLOAD-MOST) (λ q. rw q (same (notify x y c))) (λ q. rw q (notified x y c (leb-false _ _ q)))
  abridged_by (publish x c) = split (leb (length c) PAYLOAD-MOST) (λ q. rw q (same (publish x c))) (λ q. rw q (published x c (leb-false _ _ q)))
  abridged_by (spawn x) = same (spawn x)
  abridged_by next = same next
  abridged_by yield = same yield
  abridged_by (receive x y c d) = same (receive x y c d)
  abridged_by show = same show
  abridged_by shown = same shown
  abridged_by (after x) = same (after x)
  abridged_by (every x) = same (every x)
  abridged_by (cancel x) = same (cancel x)
  abridged_by (link x) = same (link x)
  abridged_by (unlink x) = same (unlink x)
  abridged_by (monitor x) = same (monitor x)
  abridged_by (demonitor x) = same (demonitor x)
  abridged_by (exit x) = same (exit x)
  abridged_by (advance x) = same (advance x)
  abridged_by report = same report
  abridged_by (bus x y c d) = same (bus x y c d)
  abridged_by (subscribe x) = same (subscribe x)
  abridged_by (unsubscribe x) = same (unsubscribe x)
  abridged_by (read x y) = same (read x y)

-- the record is the same
pub abridged-same : (o : Op) (a : Answer) → encode 0 0 (op (abridged o)) a ≡ encode 0 0 (op o) a
unfolding encode
abridged-same o a =
    abridged_by (λ x y. encode 0 0 (op x) a ≡ encode 0 0 (op y) a) (λ x. refl)
    (λ x y c q. let n : length (replicate (length c) 0) ≡ length c = length-replicate {A = ℕ} (length c) 0 in rw (n, lt-leb (length c) PAYLOAD-MOST q))
    (λ x c q. let n : length (replicate (length c) 0) ≡ length c = length-replicate {A = ℕ} (length c) 0 in rw (n, lt-leb (length c) PAYLOAD-MOST q))
    o

-- THE ANSWER DOES NOT DEPEND ON THE BYTES of a payload over 252, nor does the state
module _ (c d : List ℕ) (x : PAYLOAD-MOST < length c) (y : PAYLOAD-MOST < length d) (k : Caps) (s : State) where
  pub notify_long : (to tag : ℕ) → step (notify to tag c) k s ≡ step (notify to tag d) k s
  unfolding ruled
  notify_long to tag =
      split (eqb (runner s) 0) (λ q. rw q)
      (λ q. split (leb ANY-TAG tag) (λ p. rw (q, p)) (λ p. rw (q, p, lt-ltb PAYLOAD-MOST (length c) x, lt-ltb PAYLOAD-MOST (length d) y)))

  pub publish_long : (b : ℕ) → step (publish b c) k s ≡ step (publish b d) k s
  unfolding ruled
  publish_long b = split (eqb (runner s) 0) (λ q. rw q) (λ q. rw (q, lt-ltb PAYLOAD-MOST (length c) x, lt-ltb PAYLOAD-MOST (length d) y))

pub abridged-step : (o : Op) (k : Caps) (s : State) → step (abridged o) k s ≡ step o k s
abridged-step o k s =
    abridged_by (λ x y. step x k s ≡ step y k s) (λ x. refl)
    (λ x y c q. notify_long (replicate (length c) 0) c (rw (length-replicate {A = ℕ} (length c) 0) q) q k s x y)
    (λ x c q. publish_long (replicate (length c) 0) c (rw (length-replicate {A = ℕ} (length c) 0) q) q k s x)
    o

-- ---- the room of a read: a number of any size
-- THE ANSWER DEPENDS ON THE ROOM only by whether the oldest unread payload fits in it, and so does the state
pub read_room : (b m n : ℕ) (k : Caps) (s : State) → ltb m (unread_length s b (runner s)) ≡ ltb n (unread_length s b (runner s)) → step (read b m) k s ≡ step (read b n) k s
unfolding ruled
read_room b m n k s e = split (eqb (runner s) 0) (λ q. rw q) (λ q. rw (q, e))

-- that of a sound runtime is at most 252 bytes
unread-fits : (b a : ℕ) (k : Caps) (s : State) → Good k s → unread_length s b a ≤ PAYLOAD-MOST
unread-fits b a k s g =
    split (ltb (oldest_unread s b a) (head s ISSUED)) (λ q. rw q (length-fits g (value_at s (oldest_unread s b a)))) (λ q. rw q (omega arith))

-- so a slice of 252 bytes stands for every longer one
pub read_most : (b n : ℕ) (k : Caps) (s : State) → Good k s → step (read b (min n PAYLOAD-MOST)) k s ≡ step (read b n) k s
read_most b n k s g =
    let u = unread_length s b (runner s) in
    let h : u ≤ PAYLOAD-MOST = unread-fits b (runner s) k s g in
    read_room b (min n PAYLOAD-MOST) n k s
    (split (ltb n u)
    (λ q. lt-ltb (min n PAYLOAD-MOST) u (omega (arith, ltb-true n u q)) ∙ sym q)
    (λ q. le-ltb (min n PAYLOAD-MOST) u (omega (arith, h, ltb-false n u q)) ∙ sym q))
