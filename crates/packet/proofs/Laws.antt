-- The laws of heads, of the cut and of an entry's reading.
use Rattle.std.specs.Prelude.{◌+◌, ◌*◌, ◌-◌, ◌≤◌, ◌<◌, ◌≡◌, ◌∷◌, ◌++◌, ◌≢◌, Ok, Err, Result, None, Some}
use Rattle.wire.proofs.Kit.{ℕ, zero, suc, refl, sym, ap, subst, ◌∙◌, List, [], append_assoc, append-nil, Bool, true, false}
use Rattle.wire.proofs.Kit.{⊎_elim, arith, length, get_or, take, drop, replicate, drop-drop}
use Rattle.wire.proofs.Kit.{length-append, length-take, length-drop, sets, length-take-le, leb, ltb, eqb, leb-true, leb-false, le-leb, lt-leb, ltb-true}
use Rattle.wire.proofs.Kit.{lt-ltb, ne_eqb, eqb-true, eqb-false}
use lib.Seq.{drop-nil}
use Rattle.wire.specs.Choice.{pick}
use Rattle.wire.specs.declared.cursor.Cursor.{Cursor}
use Rattle.wire.specs.Limit as limit
use Rattle.wire.specs.Number.{number}
use Rattle.wire.specs.Field.{to, bytes_at, u8_at, u16_at, tag_at, got, past_tag, got_to, Parsed}
use Rattle.wire.proofs.Laws.{picked, tag_next, tag_stop, same_ok, same_answer, same_place}
use Rattle.wire.proofs.Stands.{go8, go16, go32, go_text}
use Rattle.image.specs.Record.{bytes_of, size}
use Rattle.image.specs.Due.{Due, end, stop, seen, due, based, Ends, Stops, Ran, ran, run, Step, went_to}
use Rattle.image.specs.Whole.{refused, finished}
use Rattle.image.proofs.Laws.{based_zero}
use Rattle.image.proofs.Settle.{on_case, finished_ran}
use Rattle.amf0.specs.Reading.{top_value, value_in}
use Rattle.amf0.proofs.Laws.{part_over, part_read}
use Rattle.image.proofs.Kept.{Kept, ends_kept, stops_kept}
use Rattle.amf0.proofs.Reasons.{Named, kept}
use Rattle.packet.specs.declared.head.Entry.{Entry}
use Rattle.packet.specs.declared.entry.Cutting.{Cutting}
use Rattle.packet.specs.declared.walk.Walk.TheVariants as W
use Rattle.packet.specs.Head.{unknown, version_at, front_of, header_at, message_at, head_at, Head}
use Rattle.packet.specs.Entry.{Ending, done, halt, reach, Trail, stopped, puts, ◌thence◌, measured, measured_at, entry_at, walk, end_at, messages_from, Cut, found, stops, strict, cut_of, no_entry, Listed, uncut, listed, filled, value_of, read_span, entry_in, found_in}
use Rattle.packet.specs.Code.{behind, rest_of, past, first_of, refused_cut, counted_in, judged_of}
use Rattle.amf0.specs.Span.{Span, held, judge, in_span, answer_of, one_value}
use Rattle.wire.specs.Answer.{denied, Verdict}

-- ---- what refuses

-- a field's refusal
pub record Field (a : ℕ) : Type 0 where
  pub low : 2 ≤ a
  pub high : a ≤ 3

pub two : Field 2
two = record { low = omega arith; high = omega arith }

pub three : Field 3
three = record { low = omega arith; high = omega arith }

-- an answer that refuses a packet, at least so much
pub record Tells (least a : ℕ) : Type 0 where
  pub low : least ≤ a
  pub high : a ≤ 7
  pub room : a ≢ 4
  pub tree : a ≢ 6

-- by a field round the values, or in one
pub field_tells : {least a : ℕ} → least ≤ 2 → Field a → Tells least a
field_tells l f = record { low = omega arith; high = omega arith; room = λ e. omega arith; tree = λ e. omega arith }

pub value_tells : {least a : ℕ} → least ≤ 2 → Named a → Tells least a
value_tells l n = record { low = omega (arith, n.low); high = omega (arith, n.high); room = n.other; tree = λ e. omega (arith, n.high) }

one : Tells 1 1
one = record { low = omega arith; high = omega arith; room = λ e. omega arith; tree = λ e. omega arith }

seven : Tells 2 7
seven = record { low = omega arith; high = omega arith; room = λ e. omega arith; tree = λ e. omega arith }

weaker : {a : ℕ} → Tells 2 a → Tells 1 a
weaker t = record { low = omega (arith, t.low); high = t.high; room = t.room; tree = t.tree }

-- the answer that refuses the cut of a packet
pub record Refuses (s : List ℕ) (a : ℕ) : Type 0 where
  pub cuts : Tells 1 a
  pub over : a ≡ 1 → limit.bytes < length s

field_refuses : (s : List ℕ) {a : ℕ} → Field a → Refuses s a
field_refuses s f = record { cuts = field_tells (omega arith) f; over = λ e. absurd (omega arith) }

value_refuses : (s : List ℕ) {a : ℕ} → Named a → Refuses s a
value_refuses s n = record { cuts = value_tells (omega arith) n; over = λ e. absurd (omega (arith, n.low)) }

over_refuses : (s : List ℕ) → limit.bytes < length s → Refuses s 1
over_refuses s l = record { cuts = one; over = λ e. l }

-- ---- heads

-- n bytes from p on lie from a place up to another
pub record Between (at next p n : ℕ) : Type 0 where
  pub bounds : (i : ℕ) → p ≤ i → i < p + n → (at ≤ i) × (i < next)

-- a head at a place was read: its value begins at v, inside the input, and its texts stand before that
pub record Begun (s : List ℕ) (at : ℕ) (e : Entry) (v : ℕ) : Type 0 where
  pub place : e.place ≡ v
  pub from : at + 7 ≤ v
  pub within : v ≤ length s
  pub first : Between at v e.place1 e.length1
  pub second : Between at v e.place2 e.length2

-- and its length stands in the four bytes before that; or a field refuses it, inside an input in which it begins
abbrev pub Headed : List ℕ → ℕ → Head → Type 0
Headed s at (Ok x) = Begun s at x.0 x.1.at × (x.0.length ≡ number (bytes_at 4 s (x.1.at - 4)))
Headed s at (Err r) = Field r.answer × (at ≤ length s → r.place ≤ length s)

module _ (s : List ℕ) (at : ℕ) where
  -- the number in the four bytes before the place that is four bytes behind q
  before_value : (q : ℕ) → number (bytes_at 4 s q) ≡ number (bytes_at 4 s (q + 4 - 4))
  before_value q = let e : q + 4 - 4 ≡ q = omega arith in rw e

  header_told : Headed s at (header_at s at)
  unfolding header_at
  header_told = go_text (Headed s at) denied s at 2 _
      (λ n e i u. go8 (Headed s at) denied s (at + 2 + n) _
      (λ j. go32 (Headed s at) denied s (at + 2 + n + 1) _
      (λ k. (
        record {
          place = refl;
          from = omega arith;
          within = k;
          first = record { bounds = λ x y z. (omega arith, omega arith) };
          second = record { bounds = λ x y z. absurd (omega arith) };
        },
        before_value (at + 2 + n + 1),
      ))
      (λ k. (two, λ l. omega arith)))
      (λ j. (two, λ l. omega arith)))
      (λ i. (two, λ l. l)) (λ n e i j. (two, λ l. i)) (λ n e i u. (three, λ l. omega arith))

  message_told : Headed s at (message_at s at)
  unfolding message_at
  message_told = go_text (Headed s at) denied s at 2 _
      (λ n e i u. go_text (Headed s at) denied s (at + 2 + n) 2 _
      (λ m f j v. go32 (Headed s at) denied s (at + 2 + n + 2 + m) _
      (λ k. (
        record {
          place = refl;
          from = omega arith;
          within = k;
          first = record { bounds = λ x y z. (omega arith, omega arith) };
          second = record { bounds = λ x y z. (omega arith, omega arith) };
        },
        before_value (at + 2 + n + 2 + m),
      ))
      (λ k. (two, λ l. omega arith)))
      (λ j. (two, λ l. i)) (λ m f j k. (two, λ l. j)) (λ m f j v. (three, λ l. omega arith)))
      (λ i. (two, λ l. l)) (λ n e i j. (two, λ l. i)) (λ n e i u. (three, λ l. omega arith))

  pub head_told : (kind : ℕ) → Headed s at (head_at kind s at)
  head_told kind = picked (Headed s at) (eqb kind 0x31) _ _ (λ e. header_told) (λ e. message_told)

  pub head_begun : (kind : ℕ) {e : Entry} {c : Cursor} → head_at kind s at ≡ got_to e c → Begun s at e c.at
  head_begun kind h = let t = rw h at (head_told kind) in t.0

  pub head_length : (kind : ℕ) {e : Entry} {c : Cursor} → head_at kind s at ≡ got_to e c → e.length ≡ number (bytes_at 4 s (c.at - 4))
  head_length kind h = let t = rw h at (head_told kind) in t.1

  pub head_within : (kind : ℕ) (x : Entry × Cursor) → head_at kind s at ≡ Ok x → (at + 7 ≤ x.1.at) × (x.1.at ≤ length s)
  head_within kind x h = let b = head_begun kind {e = x.0} {c = x.1} h in (b.from, b.within)

-- ---- entries

-- a value of the input itself
pub value_read : (s : List ℕ) (at : ℕ) → length s ≤ limit.bytes → at ≤ length s → value_in 0 s at ≡ top_value s at
value_read s at l h = part_read 0 s at (omega arith) h ∙ based_zero (top_value s at)

module _ (kind : ℕ) (s : List ℕ) (at : ℕ) where
  -- What an entry comes to, by its head: that is refused; or its length is known, and its value is inside the input or not; or it is not known, and its value is
  -- read where it stands, to its end or not, in an input within the limit.
  pub data Entered : Head → Type 0 where
    no_head : {a p : ℕ} → head_at kind s at ≡ denied a p → Entered (denied a p)
    fits : {e : Entry} {c : Cursor} → head_at kind s at ≡ got_to e c → e.length ≢ unknown → c.at + e.length ≤ length s
        → Entered (got_to e (to (c.at + e.length)))
    exceeds : {e : Entry} {c : Cursor} → head_at kind s at ≡ got_to e c → e.length ≢ unknown → length s < c.at + e.length
        → Entered (denied 2 (c.at - 4))
    ends : {e : Entry} {c : Cursor} {n : ℕ} → head_at kind s at ≡ got_to e c → e.length ≡ unknown → length s ≤ limit.bytes → Ends (top_value s c.at) n
        → Entered (got_to (measured e (n - c.at)) (to n))
    halts : {e : Entry} {c : Cursor} {a p : ℕ} → head_at kind s at ≡ got_to e c → e.length ≡ unknown → length s ≤ limit.bytes
        → Stops (top_value s c.at) a p → Entered (denied a p)
    over_limit : {e : Entry} {c : Cursor} → head_at kind s at ≡ got_to e c → e.length ≡ unknown → limit.bytes < length s → Entered (denied 1 0)

  pub entry_told : Entered (entry_at kind s at)
  unfolding entry_at
  entry_told = go (head_at kind s at) refl
    where
      read : {e : Entry} {c : Cursor} → head_at kind s at ≡ got_to e c → e.length ≡ unknown → (t : Bool) → leb (length s) limit.bytes ≡ t
          → Entered (measured_at s e c.at)
      read {e} {c} h u true t =
          let l = leb-true (length s) limit.bytes t in
          rw (value_read s c.at l (head_begun s at kind h).within)
          (on_case Entered (top_value s c.at) _ _ (λ n f. Entered.ends h u l f) (λ a p f. Entered.halts h u l f))
      read {e} {c} h u false t =
          let l = leb-false (length s) limit.bytes t in
          rw (part_over 0 s c.at (omega arith)) (Entered.over_limit h u l)

      go : (x : Head) → head_at kind s at ≡ x
          → Entered (got denied x λ e v.
          pick (eqb e.length unknown)
          (measured_at s e v)
          (pick (leb (v + e.length) (length s)) (got_to e (to (v + e.length))) (denied 2 (v - 4))))
      go (Ok x) h = picked Entered (eqb x.0.length unknown) _ _ (λ u. read h (eqb-true _ _ u) (leb (length s) limit.bytes) refl)
          (λ k. picked Entered (leb (x.1.at + x.0.length) (length s)) _ _
          (λ l. Entered.fits h (eqb-false _ _ k) (leb-true _ _ l)) (λ l. Entered.exceeds h (eqb-false _ _ k) (leb-false _ _ l)))
      go (Err r) h = Entered.no_head h

-- an entry at a place: its value is inside the input and ends at z
pub record Spanned (s : List ℕ) (at : ℕ) (e : Entry) (z : ℕ) : Type 0 where
  pub begun : Begun s at e e.place
  pub ends : e.place + e.length ≡ z
  pub within : z ≤ length s

abbrev pub Placed : List ℕ → ℕ → Head → Type 0
Placed s at (Ok x) = Spanned s at x.0 x.1.at
Placed s at (Err r) = Refuses s r.answer

module _ (kind : ℕ) (s : List ℕ) (at : ℕ) where
  entry_placed : (x : Head) → Entered kind s at x → Placed s at x
  entry_placed (Err r) (Entered.no_head h) = let t = rw h at (head_told s at kind) in field_refuses s t.0
  entry_placed (Ok x) (Entered.fits h k l) =
      let b = head_begun s at kind h in
      record { begun = subst (Begun s at x.0) (sym b.place) b; ends = rw b.place; within = l }
  entry_placed (Err r) (Entered.exceeds h k l) = field_refuses s two
  entry_placed (Ok x) (Entered.ends {e = f} {c = d} {n} h u l g) =
      let b = head_begun s at kind h in
      let v : ℕ = d.at in
      let i = ends_kept Named s (3 * v) n (top_value s v) (kept limit.levels s v b.within) g in
      let m : Begun s at (measured f (n - v)) v =
      record { place = b.place; from = b.from; within = b.within; first = b.first; second = b.second }
      in
      record { begun = subst (Begun s at (measured f (n - v))) (sym b.place) m; ends = omega (arith, i.0, b.place); within = i.1 }
  entry_placed (Err r) (Entered.halts {c = d} h u l g) =
      let b = head_begun s at kind h in
      value_refuses s (stops_kept Named s (3 * d.at) r.answer r.place (top_value s d.at) (kept limit.levels s d.at b.within) g).0
  entry_placed (Err r) (Entered.over_limit h u l) = over_refuses s l

  pub entry_spanned : {e : Entry} {c : Cursor} → entry_at kind s at ≡ got_to e c → Spanned s at e c.at
  entry_spanned h = rw h at (entry_placed (entry_at kind s at) (entry_told kind s at))

-- every entry's value is inside the input
abbrev pub Inside : List ℕ → List Entry → Type 0
Inside s [] = Unit {0}
Inside s (e ∷ es) = (e.place + e.length ≤ length s) × Inside s es

inside_both : (s : List ℕ) (hs ms : List Entry) → Inside s hs → Inside s ms → Inside s (hs ++ ms)
inside_both s [] ms i j = j
inside_both s (e ∷ hs) ms i j = (i.0, inside_both s hs ms i.1 j)

inside_at : (s : List ℕ) (es : List Entry) (i : ℕ) (d : Entry) → i < length es → Inside s es → (get_or es i d).place + (get_or es i d).length ≤ length s
inside_at s [] i d h f = absurd (omega arith)
inside_at s (e ∷ es) zero d h f = f.0
inside_at s (e ∷ es) (suc i) d h f = inside_at s es i d (omega arith) f.1

-- how a trail ends: inside the input, or refused
abbrev pub Ended : List ℕ → Ending → Type 0
Ended s (done z) = z ≤ length s
Ended s (halt a p) = Refuses s a

pub record Went (s : List ℕ) (t : Trail) : Type 0 where
  pub inside : Inside s t.entries
  pub ended : Ended s t.ending

went_stopped : (s : List ℕ) {a : ℕ} (p : ℕ) → Refuses s a → Went s (stopped a p)
went_stopped s p f = record { inside = tt; ended = f }

went_puts : (s : List ℕ) (es : List Entry) (t : Trail) → Inside s es → Went s t → Went s (puts es t)
went_puts s es t i w = record { inside = inside_both s es t.entries i w.inside; ended = w.ended }

went_thence : (s : List ℕ) (t : Trail) (k : ℕ → Trail) → Went s t → ((z : ℕ) → z ≤ length s → Went s (k z)) → Went s (t thence k)
went_thence s t k w g = went_puts s t.entries (reach stopped t.ending k) w.inside (go t.ending w.ended)
  where
    go : (x : Ending) → Ended s x → Went s (reach stopped x k)
    go (done z) h = g z h
    go (halt a p) h = went_stopped s p h

walk_told : (kind : ℕ) (s : List ℕ) (n at : ℕ) → at ≤ length s → Went s (walk kind s n at)
unfolding walk
walk_told kind s zero at h = record { inside = tt; ended = h }
walk_told kind s (suc n) at h = go (walk_told kind s n) (entry_at kind s at) (entry_placed kind s at (entry_at kind s at) (entry_told kind s at))
  where
    go : ((q : ℕ) → q ≤ length s → Went s (walk kind s n q)) → (x : Head) → Placed s at x → Went s (got stopped x λ e q. puts (e ∷ []) (walk kind s n q))
    go g (Ok x) p = went_puts s (x.0 ∷ []) (walk kind s n x.1.at) (omega (arith, p.ends, p.within), tt) (g x.1.at p.within)
    go g (Err r) f = went_stopped s r.place f

-- ---- the walk's steps

module _ (s : List ℕ) (kind more : ℕ) (c : Cursor) where
  -- an entry that is refused, or is there
  pub rest_stop : {a p : ℕ} → entry_at kind s c.at ≡ denied a p → rest_of s (W.At kind more c) ≡ stopped a p
  unfolding walk
  rest_stop e = rw e

  pub rest_more : {e : Entry} {d : Cursor} → entry_at kind s c.at ≡ got_to e d
      → rest_of s (W.At kind more c) ≡ puts (e ∷ []) (walk kind s more d.at thence behind kind s)
  unfolding walk
  rest_more h = rw h

-- no entries of a kind are left
pub walk_none : (kind : ℕ) (s : List ℕ) (n at : ℕ) → n ≤ 0 → walk kind s n at thence behind kind s ≡ behind kind s at
unfolding walk
walk_none kind s zero at h = refl
walk_none kind s (suc n) at h = absurd (omega arith)

-- where no entry is left, none more can be left out
pub past_none : (n : ℕ) (t : Trail) → first_of t.entries ≡ None → past n t ≡ t
past_none n t h = go t.entries h
  where
    go : (es : List Entry) → first_of es ≡ None → ◌≡◌ {A = Trail} (record { entries = drop n es; ending = t.ending }) (record { entries = es; ending = t.ending })
    go [] h = rw (drop-nil n)
    go (e ∷ es) h = let z : ◌≡◌ {A = ℕ} 0 1 = cc in absurd (omega arith)

pub past_more : (n : ℕ) (t : Trail) → 0 < n → past n t ≡ past (n - 1) (past 1 t)
past_more n t h = let m : 1 + (n - 1) ≡ n = omega arith in rw (drop-drop (n - 1) 1 t.entries, m)

-- ---- the list

-- the first entry of a trail is taken off it, and is in the list
pub strict_last : (b : List Entry) (t : Trail) {e : Entry} → first_of t.entries ≡ Some e → strict (puts b t) ≡ strict (puts (b ++ e ∷ []) (past 1 t))
strict_last b t {e} = go t.entries
  where
    go : (es : List Entry) → first_of es ≡ Some e → reach stops t.ending (found (b ++ es)) ≡ reach stops t.ending (found (b ++ e ∷ [] ++ drop 1 es))
    go [] h = let z : ◌≡◌ {A = ℕ} 0 1 = cc in absurd (omega arith)
    go (d ∷ es) h = let f : d ≡ e = cc in rw (f, append_assoc b (e ∷ []) es)

-- a loop that takes entries off a trail t for a room came to its end, and u is left: the room is full, or there is no entry
abbrev pub Left : (n room : ℕ) → Trail → Trail → Type 0
Left n room t u = (t ≡ u) × (0 < length u.entries → room ≤ n)

pub left_full : (n room : ℕ) (t : Trail) → room ≤ n → Left n room t t
left_full n room t h = (refl, λ e. h)

pub left_none : (n room : ℕ) (t : Trail) {u : Trail} → first_of t.entries ≡ None → u ≡ past 1 t → Left n room t u
left_none n room t h e = (sym (e ∙ past_none 1 t h), λ g. absurd (go t.entries h (omega (arith, g, ap (λ (x : Trail). length x.entries) (e ∙ past_none 1 t h)))))
  where
    go : (es : List Entry) → first_of es ≡ None → 0 < length es → ⊥
    go [] h g = omega arith
    go (e ∷ es) h g = let z : ◌≡◌ {A = ℕ} 0 1 = cc in omega arith

-- a cut of which all entries are in the list
abbrev pub all : List Entry → ℕ → Listed
all es z = record { cutting = record { answer = 0; used = z; count = length es }; entries = es }

-- Of a trail the entries b are taken off and t is left, and there is an entry in t only where the room is full: either b is all of it, or it is refused.
pub counting : (P : Cutting → Listed → Type 0) (b : List Entry) (room : ℕ) (t : Trail) → length b ≤ room → (0 < length t.entries → room ≤ length b)
    → ((z : ℕ) → P (all b z).cutting (all b z)) → ((a p : ℕ) → P (refused_cut a p) (uncut a p)) → P (counted_in t (length b)) (listed (strict (puts b t)) room)
counting P b room t h s y n = go t.entries t.ending s
  where
    go : (es : List Entry) (x : Ending) → (0 < length es → room ≤ length b)
        → P (counted_in (record { entries = es; ending = x }) (length b)) (listed (reach stops x (found (b ++ es))) room)
    go es (halt a p) s = n a p
    go [] (done z) s = rw (append-nil b, le-leb (length b) room h) (y z)
    go (e ∷ es) (done z) s =
        let m = length-append b (e ∷ es) in
        rw (lt-leb (length (b ++ e ∷ es)) room (omega (arith, s (omega arith), m)), lt-ltb 0 (length (e ∷ es)) (omega arith)) (n 4 0)

-- a cut that is counted, and a list that is cleared behind its entries, are what a cut comes to
pub record Listing (l : List Entry) (k : Cutting) (w : Listed) : Type 0 where
  pub cutting : k ≡ w.cutting
  pub left : take k.count l ++ replicate (length l - k.count) no_entry ≡ filled w.entries (length l)

-- n entries are in the list, and t is left
pub listing : (l : List Entry) (n : ℕ) (t : Trail) → n ≤ length l → (0 < length t.entries → length l ≤ n)
    → Listing l (counted_in t n) (listed (strict (puts (take n l) t)) (length l))
listing l n t h s =
    let m = length-take-le n l h in
    rw m at
    (counting (Listing l) (take n l) (length l) t (omega arith) (λ e. omega (arith, s e)) (λ z. record { cutting = refl; left = rw m })
    (λ a p. record { cutting = refl; left = refl }))

-- ---- the whole cut

abbrev pub Versioned : List ℕ → (Result Cursor Verdict) → Type 0
Versioned s (Ok c) = (c.at ≡ 2) × (2 ≤ length s)
Versioned s (Err r) = Tells 2 r.answer × (r.place ≤ length s)

pub version_told : (s : List ℕ) → Versioned s (version_at s)
unfolding version_at
version_told s = go (tag_at (0 ∷ []) s 0) refl
  where
    go : (x : Result Cursor Verdict) → tag_at (0 ∷ []) s 0 ≡ x
        → Versioned s (past_tag denied x λ p. got denied (u8_at s p) λ v q. pick (eqb v 0) (Ok (to q)) (pick (eqb v 3) (denied 7 p) (denied 3 p)))
    go (Err x) h =
        let r = tag_stop s 0 (0 ∷ []) x.answer x.place h (omega arith) in
        ⊎_elim (λ e. rw e (field_tells (omega arith) two, r.within)) (λ e. rw e (field_tells (omega arith) three, r.within)) r.answer
    go (Ok c) h =
        let r = tag_next s 0 (0 ∷ []) c h in
        go8 (Versioned s) denied s c.at _
        (λ i. picked (Versioned s) (eqb (get_or s c.at 0) 0) _ _ (λ e. (omega arith, omega arith))
        (λ e. picked (Versioned s) (eqb (get_or s c.at 0) 3) _ _ (λ f. (seven, omega arith)) (λ f. (field_tells (omega arith) three, omega arith))))
        (λ i. (field_tells (omega arith) two, omega (arith, r.within)))

-- the entries of a packet that is cut
pub record Split (s : List ℕ) (es : List Entry) : Type 0 where
  pub short : length s ≤ limit.bytes
  pub inside : Inside s es

abbrev pub Splits : List ℕ → Cut → Type 0
Splits s (found es z) = Split s es
Splits s (stops a p) = Refuses s a

-- the front: within the limit, and four bytes
abbrev pub Fronted : List ℕ → (Parsed ℕ) → Type 0
Fronted s (Ok x) = (length s ≤ limit.bytes) × (x.1.at ≡ 4) × (4 ≤ length s)
Fronted s (Err r) = Refuses s r.answer

pub front_told : (s : List ℕ) → Fronted s (front_of s)
unfolding front_of u16_at
front_told s =
    picked (Fronted s) (leb (length s) limit.bytes) _ _
    (λ t. go (leb-true _ _ t) (version_at s) (version_told s)) (λ t. over_refuses s (leb-false _ _ t))
  where
    go : length s ≤ limit.bytes → (x : Result Cursor Verdict) → Versioned s x → Fronted s (past_tag denied x λ p. u16_at s p)
    go l (Ok c) v = picked (Fronted s) (leb (c.at + 2) (length s)) _ _ (λ t. (l, omega (arith, v.0), omega (arith, v.0, leb-true (c.at + 2) (length s) t))) (λ t. field_refuses s two)
    go l (Err r) v = record { cuts = weaker v.0; over = λ e. absurd (omega (arith, v.0.low)) }

-- what follows the front
rest_told : (s : List ℕ) (h q : ℕ) → q ≤ length s → Went s (walk 0x31 s h q thence messages_from s)
rest_told s h q i = went_thence s (walk 0x31 s h q) (messages_from s) (walk_told 0x31 s h q i) λ e j.
    go16 (Went s) stopped s e _
    (λ k. went_thence s _ (end_at s) (walk_told 0x32 s _ (e + 2) k) λ z l.
    picked (Went s) (leb (length s) z) _ _ (λ t. record { inside = tt; ended = l }) (λ t. went_stopped s z (field_refuses s three)))
    (λ k. went_stopped s e (field_refuses s two))

pub cut_told : (s : List ℕ) → Splits s (cut_of s)
unfolding cut_of
cut_told s = front (front_of s) (front_told s)
  where
    rest : length s ≤ limit.bytes → (t : Trail) → Went s t → Splits s (strict t)
    rest l t w = go t.ending w.ended
      where
        go : (x : Ending) → Ended s x → Splits s (reach stops x (found t.entries))
        go (done z) h = record { short = l; inside = w.inside }
        go (halt a p) h = h

    front : (x : Parsed ℕ) → Fronted s x → Splits s (got stops x λ h q. strict (walk 0x31 s h q thence messages_from s))
    front (Ok x) f = rest f.0 (walk 0x31 s x.0 x.1.at thence messages_from s) (rest_told s x.0 x.1.at (omega (arith, f.1, f.2)))
    front (Err r) f = f

-- ---- one entry

module _ (s : List ℕ) (number room : ℕ) where
  pub entry_none : (x : Cut) {a p : ℕ} → denied a p ≡ found_in x number → entry_in s x number room ≡ refused a p
  entry_none (found es z) {a} {p} = go (ltb number (length es))
    where
      go : (t : Bool) → denied a p ≡ pick t (Ok (get_or es number no_entry)) (denied 8 0)
          → pick t (value_of s (get_or es number no_entry) room) (refused 8 0) ≡ refused a p
      go true e = let z : ◌≡◌ {A = ℕ} 0 1 = cc in absurd (omega arith)
      go false e = rw (same_answer e, same_place e)
  entry_none (stops b q) = λ e. rw (same_answer e, same_place e)

  -- the value's bytes are inside the packet, and it is read from them
  pub record Chosen (x : Cut) (e : Entry) : Type 0 where
    pub short : length s ≤ limit.bytes
    pub inside : e.place + e.length ≤ length s
    pub read : entry_in s x number room ≡ value_of s e room

  pub entry_chosen : (x : Cut) {e : Entry} → Splits s x → Ok e ≡ found_in x number → Chosen x e
  entry_chosen (found es z) {e} w = go (ltb number (length es)) refl
    where
      go : (t : Bool) → ltb number (length es) ≡ t → Ok e ≡ pick t (Ok (get_or es number no_entry)) (denied 8 0) → Chosen (found es z) e
      go true t h =
          let f = same_ok h in
          record {
            short = w.short;
            inside = rw f (inside_at s es number no_entry (ltb-true _ _ t) w.inside);
            read = rw (t, f);
          }
      go false t h = let z : ◌≡◌ {A = ℕ} 0 1 = cc in absurd (omega arith)
  entry_chosen (stops b q) w = λ h. let z : ◌≡◌ {A = ℕ} 0 1 = cc in absurd (omega arith)

-- a reading's refusals have answers, and a step's
abbrev pub Answers : Due → Type 0
Answers (end n) = Unit {0}
Answers (stop a p) = 1 ≤ a
Answers (seen fact d) = Answers d
Answers (due r p d) = Answers d

abbrev pub Halts : Step → Type 0
Halts (Ok x) = Unit {0}
Halts (Err r) = 1 ≤ r.answer

pub run_halts : (d : Due) (made : ℕ) (image : List ℕ) → Answers d → Halts (run d made image).step
unfolding run
run_halts (end n) made image h = tt
run_halts (stop a p) made image h = h
run_halts (seen fact d) made image h = run_halts d made image h
run_halts (due r p d) made image h =
    picked (λ (x : Ran). Halts x.step) (leb (made + size r) (length image)) _ _
    (λ t. run_halts d (made + size r) (sets image made (bytes_of r)) h) (λ t. omega arith)

-- a reading whose refusals are 2 or more
pub answered : (N : ℕ → Type 0) → ((a : ℕ) → N a → 2 ≤ a) → (s : List ℕ) (c : ℕ) (d : Due) → Kept N s c d → Answers d
answered N h s c (end n) k = tt
answered N h s c (stop a p) k = omega (arith, h a k.1)
answered N h s c (seen fact d) k = answered N h s c d k
answered N h s c (due r p d) k = answered N h s (c + length (bytes_of r)) d k.1

based_answers : (b : ℕ) (d : Due) → Answers d → Answers (based b d)
based_answers b (end n) h = h
based_answers b (stop a p) h = h
based_answers b (seen fact d) h = based_answers b d h
based_answers b (due r p d) h = based_answers b d h

-- a step judged, and the whole judged
judge_finished : (p : Span) (i : List ℕ) (x : Step) → Halts x → finished (judged_of x p.place p.length) i ≡ judge p (finished x i)
judge_finished p i (Ok x) h = go (leb p.length x.0.at)
  where
    go : (t : Bool) → finished (pick t (went_to x.0 x.1) (denied 9 (p.place + x.0.at))) i ≡ pick t (finished (went_to x.0 x.1) i) (refused 9 (p.place + x.0.at))
    go true = refl
    go false = refl
judge_finished p i (Err r) h = rw (ne_eqb r.answer 0 λ e. omega arith) (go (eqb r.answer 2) (eqb r.answer 3))
  where
    go : (t u : Bool) → finished (pick t (denied 9 r.place) (pick u (denied 9 r.place) (denied r.answer r.place))) i ≡ pick t (refused 9 r.place) (pick u (refused 9 r.place) (refused r.answer r.place))
    go true u = refl
    go false true = refl
    go false false = refl

-- the step of the value reader in a span, judged
pub span_answer : (s image i : List ℕ) (p : Span) (x : Step) → length s ≤ limit.bytes → p.place + p.length ≤ length s
    → ran x i ≡ run (value_in p.place (held s p) 0) 0 image → finished (judged_of x p.place (length (held s p))) i ≡ answer_of one_value s p (length image)
span_answer s image i p x l h r =
    let n : length (held s p) ≡ p.length = simp (length-take, length-drop) (omega arith) in
    let v = one_value (held s p) in
    let d = in_span one_value s p in
    let q = r ∙ ap (λ (d : Due). run d 0 image) (part_read p.place (held s p) 0 (omega arith) (omega arith)) in
    let k = kept limit.levels (held s p) 0 (omega arith) in
    let w = based_answers p.place v (answered Named (λ a m. m.low) (held s p) 0 v k) in
    let a : Halts x = rw (ap (λ (y : Ran). y.step) q) (run_halts d 0 image w) in
    rw (n, judge_finished p i x a, finished_ran d image q)

-- a part of a packet that is inside it
pub span_read : (s : List ℕ) (p : Span) (room : ℕ) → length s ≤ limit.bytes → p.place + p.length ≤ length s
    → read_span s p.place p.length room ≡ answer_of one_value s p room
unfolding read_span
span_read s p room l h = rw (le-leb _ _ l, le-leb _ _ h)
