-- What is so of each row of the standard's, and of the record that is read of it.
use Rattle.std.specs.Prelude.{◌+◌, ◌^◌, ◌≤◌, ◌<◌, ◌≡◌, ◌∷◌, ◌++◌}
use Rattle.wire.proofs.Kit.{ℕ, zero, suc, refl, ap, ◌∙◌, List, [], true, false, le_refl, arith, length, length-append, leb, leb-false, lit<}
use Rattle.wire.specs.Number.{digits, Bytes}
use Rattle.wire.specs.Utf8.{Range, utf8}
use Rattle.wire.proofs.Rfc3629.{Match, Char, Utf8, utf8_sound}
use Rattle.wire.specs.Field.{bytes_at}
use Rattle.wire.specs.Limit as limit
use Rattle.wire.proofs.Laws.{picked}
use Rattle.wire.proofs.Stands.{Here, behind, cut, skip, inside, there}
use Rattle.image.specs.declared.record.Record.{Record}
use Rattle.image.specs.declared.record.Record.TheVariants as R
use Rattle.image.specs.Record.{layout_of, unplaced}
use Rattle.image.specs.Taking.{Small, Fits}
use Rattle.amf0.specs.Standard.{Item, Row, short_most}
use Rattle.amf0.specs.Standard.UTF-8.{short}
use Rattle.amf0.specs.Standard.UTF-8-long.{long}
use Rattle.amf0.specs.Shown.{look, Stands, Named}
use Rattle.amf0.specs.Shown.Word.{item}
use Rattle.amf0.specs.Written.{write_string, write_item}
use Rattle.amf0.proofs.Rows.{mark}

-- ---- rows of bytes

-- facts in a row
infixr 20 ◌also◌
abbrev pub ◌also◌ : {A B : Type 0} → A → B → A × B
a also b = (a, b)

-- two in a row
pub both : (x y : List ℕ) → Bytes x → Bytes y → Bytes (x ++ y)
both [] y a b = b
both (c ∷ x) y a b = (a.0, both x y a.1 b)

-- a number's
pub number : (w n : ℕ) → Bytes (digits w n)
number zero n = tt
number (suc w) n = (omega arith, number w n)

-- no range goes past the last byte
abbrev Low : List Range → Type 0
Low [] = Unit {0}
Low (r ∷ rs) = (r.high < 256) × Low rs

-- a match of them
match : {rs : List Range} {x : List ℕ} → Match rs x → Low rs → Bytes x
match Match.none h = tt
match (Match.more a b m) h = (omega (arith, h.0), match m h.1)

-- a character's, and those of characters in a row
char : {x : List ℕ} → Char x → Bytes x
char (Char.utf8_1 m) = match m (lit< tt also tt)
char (Char.utf8_2 m) = match m (lit< tt also lit< tt also tt)
char (Char.utf8_3_E0 m) = match m (lit< tt also lit< tt also lit< tt also tt)
char (Char.utf8_3_E1_EC m) = match m (lit< tt also lit< tt also lit< tt also tt)
char (Char.utf8_3_ED m) = match m (lit< tt also lit< tt also lit< tt also tt)
char (Char.utf8_3_EE_EF m) = match m (lit< tt also lit< tt also lit< tt also tt)
char (Char.utf8_4_F0 m) = match m (lit< tt also lit< tt also lit< tt also lit< tt also tt)
char (Char.utf8_4_F1_F3 m) = match m (lit< tt also lit< tt also lit< tt also lit< tt also tt)
char (Char.utf8_4_F4 m) = match m (lit< tt also lit< tt also lit< tt also lit< tt also tt)

chars : {s : List ℕ} → Utf8 s → Bytes s
chars Utf8.end = tt
chars (Utf8.char {x} {s} c u) = both x s (char c) (chars u)

-- a text's, behind its length
pub text : (w : ℕ) (t : List ℕ) → utf8 t ≡ true → Bytes (digits w (length t) ++ t)
text w t u = both (digits w (length t)) t (number w (length t)) (chars (utf8_sound t u))

-- ---- the rows

-- the record of an item, but for its place
abbrev pub of_item : Item → Record
of_item (Item.number n) = R.Number n
of_item (Item.boolean b) = R.Boolean b
of_item (Item.string t) = R.Text 0 (length t)
of_item Item.object = R.Object
of_item Item.null = R.Null
of_item Item.undefined = R.Undefined
of_item (Item.reference n) = R.Reference n
of_item (Item.ecma_array n) = R.EcmaArray n
of_item (Item.strict_array n) = R.StrictArray n
of_item (Item.date n z) = R.Date n true z
of_item Item.unsupported = R.Unsupported
of_item (Item.xml_document t) = R.Xml 0 (length t)
of_item (Item.typed_object t) = R.TypedObject 0 (length t)

-- a row is one of bytes, no shorter than what its item is written as; and the record that is read of it where it stands is the item's but for its place, tells the item,
-- and can stand in an image
pub record Marked {i : Item} {x : List ℕ} (row : Row i x) : Type 0 where
  pub bytes : Bytes x
  pub least : length (write_item i) ≤ length x
  pub alike : (at : ℕ) → unplaced (mark row at) ≡ of_item i
  pub tells : (s r : List ℕ) (at : ℕ) → Here s at x r → look s (mark row at) ≡ item i
  pub right : (s r : List ℕ) (at : ℕ) → length s ≤ limit.bytes → Here s at x r → Fits (mark row at) × Named s (mark row at)

pub fits : {r : Record} → Small (layout_of r).a → Small (layout_of r).b → Small (layout_of r).c → Small (layout_of r).d
    → ((n z : ℕ) → r ≡ R.Date n false z → z ≡ 0) → Fits r
fits a b c d z = record { a = a; b = b; c = c; d = d; zone = z }

pub small : 0 < 256 ^ 0
small = lit< tt

-- a record with no text
plain : {i : Item} {x : List ℕ} {row : Row i x} (m : Record) → ((at : ℕ) → mark row at ≡ m) → Bytes x → length (write_item i) ≤ length x → unplaced m ≡ of_item i
    → ((s : List ℕ) → look s m ≡ item i) → ((s : List ℕ) → Named s m) → Fits m → Marked row
plain m e b l a t n f =
    record {
      bytes = b;
      least = l;
      alike = λ at. ap unplaced (e at) ∙ a;
      tells = λ s r at h. ap (look s) (e at) ∙ t s;
      right = λ s r at i h. rw (e at) (f, n s);
    }

-- a record of a text, behind a marker and a length of w bytes
worded : (m w : ℕ) (t : List ℕ) (q : ℕ → ℕ → Record) (of : List ℕ → Item) {row : Row (of t) (m ∷ digits w (length t) ++ t)} → length (digits w (length t)) ≡ w
    → m < 256 → utf8 t ≡ true → ((at : ℕ) → mark row at ≡ q (at + 1 + w) (length t)) → length (write_item (of t)) ≤ length (m ∷ digits w (length t) ++ t)
    → ((p : ℕ) → unplaced (q p (length t)) ≡ of_item (of t)) → ((s : List ℕ) (p n : ℕ) → look s (q p n) ≡ item (of (bytes_at n s p)))
    → ((s : List ℕ) (p n : ℕ) → Stands s p n → Named s (q p n)) → ((p : ℕ) → p + length t ≤ limit.bytes → Fits (q p (length t))) → Marked row
worded m w t q of d c u e l a k n f =
    record {
      bytes = (c, text w t u);
      least = l;
      alike = λ at. ap unplaced (e at) ∙ a (at + 1 + w);
      tells = λ s r at h. ap (look s) (e at) ∙ (k s (at + 1 + w) (length t) ∙ ap (λ y. item (of y)) (letters s r at h));
      right = λ s r at b h.
          let i : at + 1 + w + length t ≤ length s = omega (arith, inside h (omega arith), length-append (digits w (length t)) t) in
          rw (e at) (f (at + 1 + w) (omega arith), n s (at + 1 + w) (length t) (record { inside = i; right = rw (letters s r at h) u }));
    }
  where
    letters : (s r : List ℕ) (at : ℕ) → Here s at (m ∷ digits w (length t) ++ t) r → bytes_at (length t) s (at + 1 + w) ≡ t
    letters s r at h = there (length t) (behind (cut (digits w (length t)) t (skip (m ∷ []) (digits w (length t) ++ t) h)) d refl) refl

string_short : (t : List ℕ) → length t < 256 ^ 2 → length (write_string t) ≤ suc (suc (suc (length t)))
string_short t h = picked (λ y. length y ≤ suc (suc (suc (length t)))) (leb (length t) short_most) _ _ (λ e. omega arith) (λ e. omega (arith, leb-false (length t) short_most e))

string_long : (t : List ℕ) → length (write_string t) ≤ suc (suc (suc (suc (suc (length t)))))
string_long t = picked (λ y. length y ≤ suc (suc (suc (suc (suc (length t)))))) (leb (length t) short_most) _ _ (λ e. omega arith) (λ e. omega arith)

pub marked : {i : Item} {x : List ℕ} (row : Row i x) → Marked row
unfolding mark
marked (Row.number n b) = plain (R.Number n) (λ at. refl) (lit< tt, number 8 n) (le_refl _) refl (λ s. refl) (λ s. tt) (fits b small small small (λ n z e. cc))
marked Row.boolean_false = plain (R.Boolean false) (λ at. refl) (lit< tt also lit< tt also tt) (le_refl _) refl (λ s. refl) (λ s. tt) (fits (lit< tt) small small small (λ n z e. cc))
marked Row.boolean_true = plain (R.Boolean true) (λ at. refl) (lit< tt also lit< tt also tt) (le_refl _) refl (λ s. refl) (λ s. tt) (fits (lit< tt) small small small (λ n z e. cc))
marked (Row.boolean_above b k d) = plain (R.Boolean true) (λ at. refl) (lit< tt also d also tt) (le_refl _) refl (λ s. refl) (λ s. tt) (fits (lit< tt) small small small (λ n z e. cc))
marked (Row.string (short t b u)) =
    worded 2 2 t R.Text Item.string refl (lit< tt) u (λ at. refl) (string_short t b) (λ p. refl) (λ s p n. refl) (λ s p n g. (g, tt))
    (λ p l. fits (omega arith) (omega arith) small small (λ n z e. cc))
marked Row.object = plain R.Object (λ at. refl) (lit< tt also tt) (le_refl _) refl (λ s. refl) (λ s. tt) (fits small small small small (λ n z e. cc))
marked Row.null = plain R.Null (λ at. refl) (lit< tt also tt) (le_refl _) refl (λ s. refl) (λ s. tt) (fits small small small small (λ n z e. cc))
marked Row.undefined = plain R.Undefined (λ at. refl) (lit< tt also tt) (le_refl _) refl (λ s. refl) (λ s. tt) (fits small small small small (λ n z e. cc))
marked (Row.departure_any_index n b) = plain (R.Reference n) (λ at. refl) (lit< tt, number 2 n) (le_refl _) refl (λ s. refl) (λ s. tt) (fits b small small small (λ n z e. cc))
marked (Row.departure_any_count n b) = plain (R.EcmaArray n) (λ at. refl) (lit< tt, number 4 n) (le_refl _) refl (λ s. refl) (λ s. tt) (fits b small small small (λ n z e. cc))
marked (Row.strict_array n b) = plain (R.StrictArray n) (λ at. refl) (lit< tt, number 4 n) (le_refl _) refl (λ s. refl) (λ s. tt) (fits b small small small (λ n z e. cc))
marked (Row.date n b) = plain (R.Date n true 0) (λ at. refl) (lit< tt, both (digits 8 n) (digits 2 0) (number 8 n) (number 2 0)) (le_refl _) refl (λ s. refl) (λ s. tt) (fits b (lit< tt) (lit< tt) small (λ n z e. cc))
marked (Row.departure_any_zone n z b k d) =
    plain (R.Date n true z) (λ at. refl) (lit< tt, both (digits 8 n) (digits 2 z) (number 8 n) (number 2 z)) (le_refl _) refl (λ s. refl) (λ s. tt) (fits b (lit< tt) d small (λ n z e. cc))
marked (Row.long_string (long t b u) k) =
    worded 12 4 t R.Text Item.string refl (lit< tt) u (λ at. refl) (string_long t) (λ p. refl) (λ s p n. refl) (λ s p n g. (g, tt))
    (λ p l. fits (omega arith) (omega arith) small small (λ n z e. cc))
marked (Row.departure_long_string (long t b u) k) =
    worded 12 4 t R.Text Item.string refl (lit< tt) u (λ at. refl) (string_long t) (λ p. refl) (λ s p n. refl) (λ s p n g. (g, tt))
    (λ p l. fits (omega arith) (omega arith) small small (λ n z e. cc))
marked Row.unsupported = plain R.Unsupported (λ at. refl) (lit< tt also tt) (le_refl _) refl (λ s. refl) (λ s. tt) (fits small small small small (λ n z e. cc))
marked (Row.xml_document (long t b u)) =
    worded 15 4 t R.Xml Item.xml_document refl (lit< tt) u (λ at. refl) (le_refl _) (λ p. refl) (λ s p n. refl) (λ s p n g. (g, tt))
    (λ p l. fits (omega arith) (omega arith) small small (λ n z e. cc))
marked (Row.typed_object (short t b u)) =
    worded 16 2 t R.TypedObject Item.typed_object refl (lit< tt) u (λ at. refl) (le_refl _) (λ p. refl) (λ s p n. refl) (λ s p n g. (g, tt))
    (λ p l. fits (omega arith) b small small (λ n z e. cc))
marked Row.departure_avmplus = plain R.Unsupported (λ at. refl) (lit< tt also tt) (le_refl _) refl (λ s. refl) (λ s. tt) (fits small small small small (λ n z e. cc))
marked (Row.departure_unknown m b k) = plain R.Unsupported (λ at. refl) (k also tt) (le_refl _) refl (λ s. refl) (λ s. tt) (fits small small small small (λ n z e. cc))
