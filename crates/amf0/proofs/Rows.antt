-- A marker and its fields are read as the standard's row, and what was read of them is a row.
use Rattle.std.specs.Prelude.{◌+◌, ◌^◌, ◌≤◌, ◌<◌, ◌≡◌, ◌∷◌, ◌++◌, Ok, Err, Some, Option}
use Rattle.wire.proofs.Kit.{ℕ, zero, suc, refl, sym, ap, ◌∙◌, List, [], Bool, true, false, arith, length, get_or}
use Rattle.wire.proofs.Kit.{List·getD-eq-default, leb, ltb, eqb, le-leb, lt-ltb, ne_eqb, leb-true, leb-false}
use Rattle.std.proofs.Common.{suc-le-suc, zero-le}
use Rattle.wire.specs.Number.{digits, Bytes}
use Rattle.wire.specs.Utf8.{utf8}
use Rattle.wire.specs.Field.{u8_at, text_at, got, got_text}
use Rattle.wire.proofs.Laws.{picked}
use Rattle.wire.proofs.Stands.{Here, join, cut, skip, bytes_here, byte_at, u16_at_lem, u32_at_lem, u64_at_lem, text_at_lem, end8, end16, end32, end64, end_text}
use Rattle.image.specs.declared.record.Record.{Record}
use Rattle.image.specs.declared.record.Record.TheVariants as R
use Rattle.amf0.specs.declared.type_marker.TypeMarker.TheVariants as M
use Rattle.amf0.specs.declared.read.Follow.{Follow}
use Rattle.amf0.specs.declared.read.Follow.TheVariants.{Nothing, Pairs, Values}
use Rattle.amf0.specs.Marker.{markers, marker_of}
use Rattle.amf0.specs.Fields.{fields_at, gives, behind, Fields}
use Rattle.amf0.specs.Standard.{Item, Content, content, follows, many, short_most, Row}
use Rattle.amf0.specs.Standard.UTF-8.{short}
use Rattle.amf0.specs.Standard.UTF-8-long.{long}
use Rattle.wire.specs.Answer.{denied}
use Rattle.amf0.specs.declared.type_marker.TypeMarker.{TypeMarker}

-- a marker and its fields, from the marker's place on
unfoldable pub item_at : List ℕ → ℕ → Fields
item_at s at = got denied (u8_at s at) λ m p. behind s at p (marker_of m)

-- the record of a row that stands at a place, and what is then to follow
unfoldable pub mark : {i : Item} {x : List ℕ} → Row i x → ℕ → Record
mark (Row.number n h) at = R.Number n
mark Row.boolean_false at = R.Boolean false
mark Row.boolean_true at = R.Boolean true
mark (Row.boolean_above b h l) at = R.Boolean true
mark (Row.string (short t h u)) at = R.Text (at + 1 + 2) (length t)
mark Row.object at = R.Object
mark Row.null at = R.Null
mark Row.undefined at = R.Undefined
mark (Row.departure_any_index n h) at = R.Reference n
mark (Row.departure_any_count n h) at = R.EcmaArray n
mark (Row.strict_array n h) at = R.StrictArray n
mark (Row.date n h) at = R.Date n true 0
mark (Row.departure_any_zone n z h k l) at = R.Date n true z
mark (Row.long_string (long t h u) l) at = R.Text (at + 1 + 4) (length t)
mark (Row.departure_long_string (long t h u) l) at = R.Text (at + 1 + 4) (length t)
mark Row.unsupported at = R.Unsupported
mark (Row.xml_document (long t h u)) at = R.Xml (at + 1 + 4) (length t)
mark (Row.typed_object (short t h u)) at = R.TypedObject (at + 1 + 2) (length t)
mark Row.departure_avmplus at = R.Unsupported
mark (Row.departure_unknown m h l) at = R.Unsupported

abbrev pub next_of : Content → Follow
next_of Content.nothing = Nothing
next_of Content.named = Pairs
next_of Content.associative = Pairs
next_of (Content.ordered n) = Values n

abbrev pub next : Item → Follow
next i = next_of (content i)

-- a row begins with a byte that is not the object end marker
pub record Begins (x : List ℕ) : Type 0 where
  pub first : ℕ
  pub rest : List ℕ
  pub same : x ≡ first ∷ rest
  pub other : eqb first 9 ≡ false

begins : (m : ℕ) (y : List ℕ) → eqb m 9 ≡ false → Begins (m ∷ y)
begins m y e = record { first = m; rest = y; same = refl; other = e }

pub row_begins : {i : Item} {x : List ℕ} → Row i x → Begins x
row_begins (Row.number n h) = begins 0 _ refl
row_begins Row.boolean_false = begins 1 _ refl
row_begins Row.boolean_true = begins 1 _ refl
row_begins (Row.boolean_above b h l) = begins 1 _ refl
row_begins (Row.string t) = begins 2 _ refl
row_begins Row.object = begins 3 _ refl
row_begins Row.null = begins 5 _ refl
row_begins Row.undefined = begins 6 _ refl
row_begins (Row.departure_any_index n h) = begins 7 _ refl
row_begins (Row.departure_any_count n h) = begins 8 _ refl
row_begins (Row.strict_array n h) = begins 10 _ refl
row_begins (Row.date n h) = begins 11 _ refl
row_begins (Row.departure_any_zone n z h k l) = begins 11 _ refl
row_begins (Row.long_string t l) = begins 12 _ refl
row_begins (Row.departure_long_string t l) = begins 12 _ refl
row_begins Row.unsupported = begins 13 _ refl
row_begins (Row.xml_document t) = begins 15 _ refl
row_begins (Row.typed_object t) = begins 16 _ refl
row_begins Row.departure_avmplus = begins 17 _ refl
row_begins (Row.departure_unknown m h l) = begins m _ (ne_eqb m 9 λ e. omega arith)

-- ---- a row that stands there is read

module _ (s r : List ℕ) (at n : ℕ) where
  marker_at : (m : ℕ) (y : List ℕ) {t : (Option TypeMarker)} {f : Fields} → marker_of m ≡ t → Here s at (m ∷ y) r → behind s at (at + 1) t ≡ f → item_at s at ≡ f
  unfolding item_at
  marker_at m y e h g = rw (byte_at m (cut (m ∷ []) y h), e) g

  bare_at : (m : ℕ) {t : (Option TypeMarker)} {q : Record} {f : Follow} → marker_of m ≡ t → Here s at (m ∷ []) r → behind s at (at + 1) t ≡ gives q f (at + 1) → n ≡ at + 1
      → item_at s at ≡ gives q f n
  bare_at m {q} {f} e h g l = marker_at m [] e h (g ∙ ap (gives q f) (sym l))

  text_row : (m w : ℕ) (t : List ℕ) {k : (Option TypeMarker)} (q : ℕ → ℕ → Record) (f : Follow) → marker_of m ≡ k
      → behind s at (at + 1) k ≡ got_text denied (text_at w s (at + 1)) (λ p c e. gives (q p c) f e) → 1 ≤ w
      → Here s at (m ∷ digits w (length t) ++ t) r → length t < 256 ^ w → utf8 t ≡ true → n ≡ at + 1 + w + length t
      → item_at s at ≡ gives (q (at + 1 + w) (length t)) f n
  text_row m w t q f e g p h b u l =
      marker_at m (digits w (length t) ++ t) e h
      (g ∙ rw (text_at_lem w t (skip (m ∷ []) (digits w (length t) ++ t) h) b u p) (ap (gives (q (at + 1 + w) (length t)) f) (sym l)))

  bool_at : (b : ℕ) → Here s at (1 ∷ b ∷ []) r → n ≡ at + 2 → item_at s at ≡ gives (R.Boolean (ltb 0 b)) Nothing n
  unfolding fields_at marker_of
  bool_at b h l = marker_at 1 (b ∷ []) refl h (rw (byte_at b (skip (1 ∷ []) (b ∷ []) h)) (ap (gives _ _) (omega arith)))

  -- a date, whatever its zone
  date_at : (c z : ℕ) → c < 256 ^ 8 → z < 256 ^ 2 → Here s at (11 ∷ digits 8 c ++ digits 2 z) r → n ≡ at + 11 → item_at s at ≡ gives (R.Date c true z) Nothing n
  unfolding fields_at marker_of
  date_at c z b d h l =
      let x = skip (11 ∷ []) (digits 8 c ++ digits 2 z) h in
      marker_at 11 (digits 8 c ++ digits 2 z) refl h
      (rw (u64_at_lem c (cut (digits 8 c) (digits 2 z) x) b, u16_at_lem z (skip (digits 8 c) (digits 2 z) x) d) (ap (gives _ _) (omega arith)))

  pub item_at_lem : {i : Item} {x : List ℕ} (row : Row i x) → Here s at x r → n ≡ at + length x → n + many (follows i) ≤ length s
      → item_at s at ≡ gives (mark row at) (next i) n
  unfolding mark fields_at marker_of
  item_at_lem (Row.number c b) h l f = marker_at 0 (digits 8 c) refl h (rw (u64_at_lem c (skip (0 ∷ []) (digits 8 c) h) b) (ap (gives _ _) (omega arith)))
  item_at_lem Row.boolean_false h l f = bool_at 0 h l
  item_at_lem Row.boolean_true h l f = bool_at 1 h l
  item_at_lem (Row.boolean_above b g k) h l f = bool_at b h l ∙ rw (lt-ltb 0 b (omega arith))
  item_at_lem (Row.string (short t b u)) h l f = text_row 2 2 t R.Text Nothing refl refl (omega arith) h b u (omega arith)
  item_at_lem Row.object h l f = bare_at 3 refl h refl l
  item_at_lem Row.null h l f = bare_at 5 refl h refl l
  item_at_lem Row.undefined h l f = bare_at 6 refl h refl l
  item_at_lem (Row.departure_any_index c b) h l f = marker_at 7 (digits 2 c) refl h (rw (u16_at_lem c (skip (7 ∷ []) (digits 2 c) h) b) (ap (gives _ _) (omega arith)))
  item_at_lem (Row.departure_any_count c b) h l f = marker_at 8 (digits 4 c) refl h (rw (u32_at_lem c (skip (8 ∷ []) (digits 4 c) h) b) (ap (gives _ _) (omega arith)))
  item_at_lem (Row.strict_array c b) h l f =
      let e : n ≡ at + 1 + 4 = omega arith in
      marker_at 10 (digits 4 c) refl h (rw (u32_at_lem c (skip (10 ∷ []) (digits 4 c) h) b, ← e, le-leb (n + c) (length s) f))
  item_at_lem (Row.date c b) h l f = date_at c 0 b (omega arith) h l
  item_at_lem (Row.departure_any_zone c z b k d) h l f = date_at c z b d h l
  item_at_lem (Row.long_string (long t b u) k) h l f = text_row 12 4 t R.Text Nothing refl refl (omega arith) h b u (omega arith)
  item_at_lem (Row.departure_long_string (long t b u) k) h l f = text_row 12 4 t R.Text Nothing refl refl (omega arith) h b u (omega arith)
  item_at_lem Row.unsupported h l f = bare_at 13 refl h refl l
  item_at_lem (Row.xml_document (long t b u)) h l f = text_row 15 4 t R.Xml Nothing refl refl (omega arith) h b u (omega arith)
  item_at_lem (Row.typed_object (short t b u)) h l f = text_row 16 2 t R.TypedObject Pairs refl refl (omega arith) h b u (omega arith)
  item_at_lem Row.departure_avmplus h l f = bare_at 17 refl h refl l
  item_at_lem (Row.departure_unknown m b k) h l f = bare_at m (List·getD-eq-default markers (Some M.Unsupported) b) h refl l

-- ---- what was read is a row

-- a row that stands at a place, with its record and what is then to follow
pub record IsRow (s : List ℕ) (at : ℕ) (r : Record) (f : Follow) (q : ℕ) : Type 0 where
  pub what : Item
  pub row : List ℕ
  pub rest : List ℕ
  pub grammar : Row what row
  pub here : Here s at row rest
  pub long : q ≡ at + length row
  pub marks : r ≡ mark grammar at
  pub follows : f ≡ next what

abbrev pub IsRead : List ℕ → ℕ → Fields → Type 0
IsRead s at (Ok x) = IsRow s at x.0 x.1 x.2.at
IsRead s at (Err r) = Unit {0}

is_row : {s x r : List ℕ} {at q : ℕ} {i : Item} {m : Record} (row : Row i x) → Here s at x r → q ≡ at + length x → m ≡ mark row at → IsRow s at m (next i) q
is_row {x} {r} {i} row h l e = record { what = i; row = x; rest = r; grammar = row; here = h; long = l; marks = e; follows = refl }

-- a fact of each marker, with its number
abbrev pub Each : (ℕ → (Option TypeMarker) → Type 0) → List (Option TypeMarker) → Type 0
Each P [] = Unit {0}
Each P (t ∷ ts) = P 0 t × Each (λ i. P (suc i)) ts

infixr 5 ◌▸◌
pub ◌▸◌ : {A B : Type 0} → A → B → A × B
a ▸ b = (a, b)

each : (P : ℕ → (Option TypeMarker) → Type 0) (d : (Option TypeMarker)) (ts : List (Option TypeMarker)) → Each P ts → ((m : ℕ) → length ts ≤ m → P m d) → (m : ℕ) → P m (get_or ts m d)
each P d [] e out m = out m zero-le
each P d (t ∷ ts) e out zero = e.0
each P d (t ∷ ts) e out (suc m) = each (λ i. P (suc i)) d ts e.1 (λ j h. out (suc j) (suc-le-suc h)) m

pub each_marker : (P : ℕ → (Option TypeMarker) → Type 0) → Each P markers → ((m : ℕ) → 18 ≤ m → P m (Some M.Unsupported)) → (m : ℕ) → P m (marker_of m)
unfolding marker_of
each_marker P = each P (Some M.Unsupported) markers

module _ (s : List ℕ) (bs : Bytes s) (at : ℕ) where
  Entry : ℕ → (Option TypeMarker) → Type 0
  Entry m t = (r : List ℕ) → Here s at (m ∷ []) r → IsRead s at (behind s at (at + 1) t)

  boolean_row : {r z : List ℕ} (b : ℕ) → Here s at (1 ∷ []) r → Here s (at + 1) (b ∷ []) z → IsRow s at (R.Boolean (ltb 0 b)) Nothing (at + 1 + 1)
  unfolding mark
  boolean_row zero h g = is_row Row.boolean_false (join h refl g) (omega arith) refl
  boolean_row (suc zero) h g = is_row Row.boolean_true (join h refl g) (omega arith) refl
  boolean_row (suc (suc b)) h g =
      is_row (Row.boolean_above (suc (suc b)) (omega arith) (bytes_here g bs).0) (join h refl g) (omega arith) (rw (lt-ltb 0 (suc (suc b)) (omega arith)))

  -- a date with the zone 0 is the document's, and one with another a departure
  date_row : {r : List ℕ} (n z : ℕ) → Here s at (11 ∷ digits 8 n ++ digits 2 z) r → n < 256 ^ 8 → z < 256 ^ 2
      → IsRow s at (R.Date n true z) Nothing (at + 1 + 8 + 2)
  unfolding mark
  date_row n zero h b d = is_row (Row.date n b) h (omega arith) refl
  date_row n (suc z) h b d = is_row (Row.departure_any_zone n (suc z) b (omega arith) d) h (omega arith) refl

  -- a long string that would not fit a short one is the document's, and one that would a departure
  long_row : {r : List ℕ} (t : List ℕ) → Here s at (12 ∷ digits 4 (length t) ++ t) r → length t < 256 ^ 4 → utf8 t ≡ true
      → IsRow s at (R.Text (at + 1 + 4) (length t)) Nothing (at + 1 + 4 + length t)
  unfolding mark
  long_row t h b u = go (leb (length t) short_most) refl
    where
      go : (x : Bool) → leb (length t) short_most ≡ x → IsRow s at (R.Text (at + 1 + 4) (length t)) Nothing (at + 1 + 4 + length t)
      go true e = is_row (Row.departure_long_string (long t b u) (leb-true _ _ e)) h (omega arith) refl
      go false e = is_row (Row.long_string (long t b u) (leb-false _ _ e)) h (omega arith) refl

  entries : Each Entry markers
  unfolding Entry fields_at mark
  entries =
      (λ r h. end64 (IsRead s at) denied (λ a p. tt) s bs (at + 1) _ λ n d. is_row (Row.number n d.bound) (join h refl d.here) (omega arith) refl)
      ▸ (λ r h. end8 (IsRead s at) denied (λ a p. tt) s bs (at + 1) _ λ b d. boolean_row b h d)
      ▸ (λ r h. end_text (IsRead s at) denied (λ a p. tt) s bs (at + 1) 2 _ λ t x g b u. is_row (Row.string (short t b u)) (join h refl g) (omega arith) refl)
      ▸ (λ r h. is_row Row.object h refl refl)
      ▸ (λ r h. tt)
      ▸ (λ r h. is_row Row.null h refl refl)
      ▸ (λ r h. is_row Row.undefined h refl refl)
      ▸ (λ r h. end16 (IsRead s at) denied (λ a p. tt) s bs (at + 1) _ λ n d. is_row (Row.departure_any_index n d.bound) (join h refl d.here) (omega arith) refl)
      ▸ (λ r h. end32 (IsRead s at) denied (λ a p. tt) s bs (at + 1) _ λ n d. is_row (Row.departure_any_count n d.bound) (join h refl d.here) (omega arith) refl)
      ▸ (λ r h. tt)
      ▸ (λ r h. end32 (IsRead s at) denied (λ a p. tt) s bs (at + 1) _ λ n d. picked (IsRead s at) (leb (at + 1 + 4 + n) (length s)) _ _
      (λ e. is_row (Row.strict_array n d.bound) (join h refl d.here) (omega arith) refl) (λ e. tt))
      ▸ (λ r h. end64 (IsRead s at) denied (λ a p. tt) s bs (at + 1) _ λ n d. end16 (IsRead s at) denied (λ a p. tt) s bs (at + 1 + 8) _ λ z e.
      date_row n z (join h refl (join d.here refl e.here)) d.bound e.bound)
      ▸ (λ r h. end_text (IsRead s at) denied (λ a p. tt) s bs (at + 1) 4 _ λ t x g b u. long_row t (join h refl g) b u)
      ▸ (λ r h. is_row Row.unsupported h refl refl)
      ▸ (λ r h. tt)
      ▸ (λ r h. end_text (IsRead s at) denied (λ a p. tt) s bs (at + 1) 4 _ λ t x g b u. is_row (Row.xml_document (long t b u)) (join h refl g) (omega arith) refl)
      ▸ (λ r h. end_text (IsRead s at) denied (λ a p. tt) s bs (at + 1) 2 _ λ t x g b u. is_row (Row.typed_object (short t b u)) (join h refl g) (omega arith) refl)
      ▸ (λ r h. is_row Row.departure_avmplus h refl refl)
      ▸ tt

  pub item_ends : IsRead s at (item_at s at)
  unfolding item_at Entry fields_at mark
  item_ends = end8 (IsRead s at) denied (λ a p. tt) s bs at _ λ m h. each_marker Entry entries (λ m l r h. is_row (Row.departure_unknown m l (bytes_here h bs).0) h refl refl) m _ h
