-- What a successful start leaves is sound, has the capacities asked for, and holds nothing.
use Prim.Native.Nat.{ℕ, zero, suc, ◌+◌, ◌-◌, ◌*◌, ◌/◌, ◌%◌, ◌^◌, ◌≤◌, ◌<◌, min}
use native.Mathlib.Nat.{pow-suc}
use native.Mathlib.Omega.{arith}
use mathlib.Core.Path.{◌≡◌, refl, ap, ◌∙◌}
use mathlib.Core.Bool.{true, not, ◌&&◌}
use mathlib.Core.List.{List, [], ◌∷◌}
use lib.ListN.{length, get_or, replicate, length-replicate, get_or-eq_default}
use lib.Dec.{ltb, leb}
use borrow.Author.Tests.{ne_eqb, lt-ltb, le-ltb, ltb-true, ltb-false, leb-true}
use Rattle.ledger.specs.Call.{Answer, number}
use Rattle.ledger.specs.Call.Answer.{plain}
use Rattle.ledger.specs.Ledger.{nothing}
use Rattle.pools.specs.Pool.{occurs}
use Rattle.pools.specs.Bits.{bit, free, WORD-BITS}
use Rattle.pools.proofs.BoolLaws.{split, true_false, and_left, and_right}
use Rattle.tables.specs.declared.Caps.{Caps}
use Rattle.tables.specs.Columns.{ACTORS, DATA-FREE, DATAS, DEADLINE, LINKS, MAIL-FREE, MAILS, MONITORS, PAST, PAYLOAD, REST, TIMERS}
use Rattle.tables.specs.Sizes.{ALL-SEATS, BIT-WORDS, COLUMN-BITS, SPARES}
use Rattle.tables.specs.Limits.{ENTRY-BYTES}
use Rattle.tables.specs.State.{InRange, Room, Sized, State, at, caps_of, needed, needed_p, poke, size, sizes, view, with_col}
use Rattle.rules.specs.Rule.{Holds, test}
use Rattle.rules.specs.Sound.{pair_rule, range_rule, sound_rule, view_of, zeros}
use Rattle.rules.specs.Terms.{alive}
use Rattle.rules.specs.Agrees.{Agrees, sizes_of, up_to}
use Rattle.rules.specs.Buses.{seat_at}
use Rattle.rules.proofs.Frames.Wrote.{wrote_none, wrote_poke, wrote_sized}
use Rattle.rules.specs.Good.{Good}
use Rattle.rules.proofs.Kept.Host.{join-sound}
use Rattle.rules.proofs.Kept.Rules.{reads}
use Rattle.rules.proofs.Kept.Sound.{range_of}
use Rattle.rules.specs.Host.{Started, can_start, ones, fresh, freed, stated, zeroed}
use Rattle.pools.proofs.BitLaws.{bit-zero, bit_suc, bit_none}

-- ---- the free bits of a fresh start
-- the number of m ones has its low m bits set
ones-set : (m j : ℕ) → j < m → bit (2 ^ m - 1) j ≡ 1
ones-set zero j l = absurd (omega arith)
ones-set (suc m) zero l = bit-zero (2 ^ suc m - 1) ∙ omega (arith, pow-suc 2 m, pos m)
  where
    pos : (m : ℕ) → 0 < 2 ^ m
    pos zero = omega arith
    pos (suc m) = omega (arith, pow-suc 2 m, pos m)
ones-set (suc m) (suc j) l =
    bit_suc (2 ^ suc m - 1) j ∙ ap (λ (x : ℕ). bit x j) (omega (arith, pow-suc 2 m)) ∙ ones-set m j (omega arith)

-- and no other
ones-clear : (m j : ℕ) → m ≤ j → bit (2 ^ m - 1) j ≡ 0
ones-clear zero j l = bit_none j
ones-clear (suc m) zero l = absurd (omega arith)
ones-clear (suc m) (suc j) l =
    bit_suc (2 ^ suc m - 1) j ∙ ap (λ (x : ℕ). bit x j) (omega (arith, pow-suc 2 m)) ∙ ones-clear m j (omega arith)

-- word q of the four
abbrev four : ℕ → List ℕ
four n = ones n 0 ∷ ones n 1 ∷ ones n 2 ∷ ones n 3 ∷ []

four-at : (n q : ℕ) → q < 4 → get_or (four n) q 0 ≡ ones n q
four-at n zero l = refl
four-at n (suc zero) l = refl
four-at n (suc (suc zero)) l = refl
four-at n (suc (suc (suc zero))) l = refl
four-at n (suc (suc (suc (suc q)))) l = absurd (omega arith)

-- entry e of n is free, and no other bit is set
pub four-free : (n e : ℕ) → n ≤ COLUMN-BITS → free (four n) e ≡ ltb e n
four-free n e h =
    split (ltb e n)
    (λ q. let l = ltb-true e n q in
    let b : e / WORD-BITS < BIT-WORDS = omega arith in
    rw (q, four-at n (e / WORD-BITS) b, ones-set (min WORD-BITS (n - WORD-BITS * (e / WORD-BITS))) (e % WORD-BITS) (omega arith)))
    (λ q. let l = ltb-false e n q in
    split (ltb (e / WORD-BITS) BIT-WORDS)
    (λ r. let b = ltb-true (e / WORD-BITS) BIT-WORDS r in
    rw (q, four-at n (e / WORD-BITS) b, ones-clear (min WORD-BITS (n - WORD-BITS * (e / WORD-BITS))) (e % WORD-BITS) (omega arith)))
    (λ r. let z : get_or (four n) (e / WORD-BITS) 0 ≡ 0 = get_or-eq_default (four n) 0 (ltb-false (e / WORD-BITS) BIT-WORDS r) in rw (q, z, bit_none (e % WORD-BITS))))

-- ---- zeros
pub zero-at : (n i : ℕ) → ◌≡◌ {A = ℕ} (get_or (replicate n 0) i 0) 0
zero-at zero i = refl
zero-at (suc n) zero = refl
zero-at (suc n) (suc i) = zero-at n i

zero-occurs : (n d : ℕ) → occurs (suc d) (replicate n 0) ≡ 0
unfolding occurs
zero-occurs zero d = refl
zero-occurs (suc n) d = rw (ne_eqb 0 (suc d) (λ e. omega arith)) (omega (arith, zero-occurs n d))

-- nobody waits
pub fresh-waits : (k : Caps) (s : State) (a : ℕ) → at (fresh k s) DEADLINE a ≡ 0
unfolding fresh freed stated zeroed with_col poke
fresh-waits k s a = zero-at k.actors a

-- ---- each rule, of a state of zeros
-- a state of which start says every column
module _ (k : Caps) (s : State) (r : InRange k) where
  -- the sizes of its columns
  fresh-sized : Sized k (fresh k s)
  unfolding fresh freed stated zeroed
  fresh-sized =
      p _ DATA-FREE 3 _ (p _ DATA-FREE 2 _ (p _ DATA-FREE 1 _ (p _ DATA-FREE 0 _
      (p _ MAIL-FREE 3 _ (p _ MAIL-FREE 2 _ (p _ MAIL-FREE 1 _ (p _ MAIL-FREE 0 _
      (p _ TIMERS 0 _ (p _ MONITORS 0 _ (p _ LINKS 0 _ (p _ DATAS 0 _
      (p _ MAILS 0 _ (p (zeroed k s) ACTORS 0 _ (record { words = words; bytes = bytes; past = past }))))))))))))))
    where
      p : (u : State) (c i v : ℕ) → Sized k u → Sized k (poke u c i v)
      p u c i v h = wrote_sized k (wrote_poke (wrote_none u) c i v) h

      words : (c : ℕ) → c < REST → length (zeroed k s c) ≡ size k c
      words c l =
          rw (ne_eqb c REST (λ e. omega arith), ne_eqb c PAST (λ e. omega arith), ne_eqb c PAYLOAD (λ e. omega arith)) (length-replicate (size k c) 0)

      bytes : length (zeroed k s PAYLOAD) ≡ needed_p k
      bytes = length-replicate (needed_p k) 0

      past : (c : ℕ) → PAST < c → zeroed k s c ≡ []
      past c l =
          rw (ne_eqb c REST (λ e. omega arith), ne_eqb c PAST (λ e. omega arith), ne_eqb c PAYLOAD (λ e. omega arith))
          (ap (λ (n : ℕ). replicate n 0) (get_or-eq_default (sizes k) 0 {n = c} (omega arith)))

  abbrev f : State
  f = fresh k s

  -- every mailbox and data entry is free
  mail-free : (e : ℕ) → e < k.mails → free (f MAIL-FREE) e ≡ true
  unfolding fresh freed stated zeroed with_col poke
  mail-free e l = four-free k.mails e r.few_mails ∙ lt-ltb e k.mails l

  data_free : (d : ℕ) → d < k.datas → free (f DATA-FREE) d ≡ true
  unfolding fresh freed stated zeroed with_col poke
  data_free d l = four-free k.datas d r.few_datas ∙ lt-ltb d k.datas l

  -- THE THEOREM: a fresh start is sound
  pub fresh_good : Good k f
  unfolding fresh freed stated zeroed with_col poke occurs zeros pair_rule
  fresh_good = record {
    range = r;
    sized = fresh-sized;
    caps = ((refl, (refl, refl)), (refl, (refl, refl)));
    head = ((omega arith, omega arith), ((omega arith, omega arith), (omega arith, omega arith)));
    spare = λ i l. zero-at SPARES i;
    mail_bits = λ e l m. rw (four-free k.mails e r.few_mails, le-ltb e k.mails m);
    data_bits = λ e l m. rw (four-free k.datas e r.few_datas, le-ltb e k.datas m);
    actors = λ a l. simp zero-at ((omega arith, (omega arith, omega arith)), ((omega arith, λ e. refl), omega arith));
    unused_words = λ a l. simp zero-at (λ e. (refl, refl), (λ d. refl, λ d. ((refl, refl), (refl, refl))));
    waits = λ a l. simp zero-at (omega arith, ((omega arith, λ e. absurd (omega arith)), λ d. absurd (d refl)));
    runs = λ a l. simp zero-at (rw (ne_eqb 0 (suc a) (λ e. omega arith)));
    queue = λ i l. (λ h. absurd (omega arith), λ h. zero-at k.actors i);
    once = λ a l. rw (zero-at k.actors a);
    mails = λ e l. (λ h. (zero-at k.mails e, zero-at k.mails e), λ h. true_false (not (free (f MAIL-FREE) e)) h (rw (mail-free e l)));
    arrivals = λ i l. (λ h. absurd (omega arith), λ h. zero-at k.mails i);
    arrived = λ e l. rw (mail-free e l);
    filters = λ e l h. true_false (not (free (f MAIL-FREE) e)) h.0 (rw (mail-free e l));
    datas = λ d l. (
      λ h. ((zero-at k.datas d, zero-at k.datas d), λ i m. zero-at (needed_p k) (ENTRY-BYTES * d + i)),
      λ h. true_false (not (free (f DATA-FREE) d)) h (rw (data_free d l)),
    );
    held = λ d l. simp zero-occurs (rw (data_free d l));
    links = λ e l. (λ h. zero-at k.links e, λ h. absurd (h (zero-at k.links e)));
    pairs = λ e l h. absurd (h (zero-at k.links e));
    monitors = λ i l. simp zero-at ((omega arith, λ h. absurd (h refl)), (λ h. refl, λ h. absurd (h refl)));
    timers = λ i l. simp zero-at ((omega arith, λ h. absurd (h refl)), (λ h. (refl, refl), λ h. absurd (h refl)));
    buses = λ b l. (λ h. absurd (omega arith), λ h. simp zero-at ((refl, refl), (refl, refl)));
    rows = λ b l n m h. absurd (h (zero-at ALL-SEATS (seat_at b n)));
    values = λ d l. (λ h. (zero-at k.datas d, zero-at k.datas d), λ h. absurd (h (zero-at k.datas d)));
    issues = λ i l. (λ h. absurd (omega arith), λ h. zero-at k.datas i);
    issued = λ d l. rw (zero-occurs k.datas d, zero-at k.datas d);
    crowds = λ b l. rw (zero-occurs k.datas b) (omega arith);
  }

  -- THE THEOREM: a fresh start holds nothing
  pub fresh_agrees : Agrees k (nothing (sizes_of k)) f
  unfolding fresh freed stated zeroed with_col poke alive occurs up_to
  fresh_agrees = record {
    sizes = refl;
    people = record {
      running = refl;
      pool = record { slots = []; all_slots = (λ a. rw (zero-at k.actors a)); are = refl; worn_slots = (λ a. rw (zero-at k.actors a)) };
    };
    mail = record {
      all_boxes = (λ e. split (ltb e k.mails) (λ q. rw (q, mail-free e (ltb-true e k.mails q))) (λ q. rw q));
      boxes = refl;
      palms = [];
      all_palms = (λ a. rw (zero-at k.actors a));
      hands = refl;
      all_datas = (λ d. split (ltb d k.datas) (λ q. rw (q, data_free d (ltb-true d k.datas q))) (λ q. rw q));
    };
    time = record {
      clock = refl;
      pool = record { slots = []; all_slots = (λ i. rw (zero-at k.timers i)); are = refl; worn_slots = (λ i. rw (zero-at k.timers i)) };
    };
    links = record {
      bonds = [];
      all_bonds = (λ e. rw (zero-at k.links e));
      links = refl;
    };
    monitors = record { slots = []; all_slots = (λ i. rw (zero-at k.monitors i)); are = refl; worn_slots = (λ i. rw (zero-at k.monitors i)) };
    buses = record {
      made = refl;
      rank = λ d. 0;
      values = refl;
      seats = [];
      all_seats = (λ i. rw (zero-at ALL-SEATS i));
      cursor = λ i. 0;
      readers = refl;
      ascending = λ i j h l. absurd (omega arith);
      before = λ d n. absurd (n (zero-at k.datas d));
      came = λ i n. absurd (n (zero-at ALL-SEATS i));
      unread = λ c n d l h e. absurd (omega (arith, e, zero-at k.datas d));
    };
  }

-- ---- in the buffers
-- a start that can be done has room for its capacities
pub can_room : (k : Caps) (w p : List ℕ) → can_start k w p ≡ true → Room k w p
can_room k w p e =
    let fits = and_right (test (range_rule k)) (leb (needed k) (length w) && leb (needed_p k) (length p)) e in
    record {
      caps = range_of k ((reads (range_rule k)).0 (and_left (test (range_rule k)) _ e));
      words = leb-true (needed k) (length w) (and_left (leb (needed k) (length w)) _ fits);
      bytes = leb-true (needed_p k) (length p) (and_right (leb (needed k) (length w)) _ fits);
    }

-- THE THEOREM: a start that answers 0 leaves sound buffers, with the capacities asked for, that hold nothing: a fresh state; any other answers 1 and changes nothing
pub started : (k : Caps) (w p : List ℕ) (r : Answer) (w' p' : List ℕ) → Started k w p r w' p' → number r ≡ 0 →
    Holds (sound_rule w' p') × (caps_of w' ≡ k) × Agrees k (nothing (sizes_of k)) (view_of w' p') × (view_of w' p' ≡ fresh k (view k w p))
started k w p r w' p' c e =
    split (can_start k w p)
    (λ q. let room = can_room k w p q in
    let j = join-sound k (fresh k (view k w p)) (fresh_good k (view k w p) room.caps) in
    rw (rw q at c.words, rw q at c.bytes) (j.0, j.2, rw j.1 (fresh_agrees k (view k w p) room.caps), j.1))
    (λ q. absurd (let n : number r ≡ 1 = ap number (rw q at c.ans) in omega arith))

pub start_refused : (k : Caps) (w p : List ℕ) (r : Answer) (w' p' : List ℕ) → Started k w p r w' p' → (number r ≡ 0 → ⊥) → (r ≡ plain 1) × (w' ≡ w) × (p' ≡ p)
start_refused k w p r w' p' c n =
    split (can_start k w p) (λ q. absurd (n (ap number (rw q at c.ans)))) (λ q. (rw q at c.ans, rw q at c.words, rw q at c.bytes))
