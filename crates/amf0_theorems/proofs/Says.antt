-- What a record says is what it is put out as, and that is a row of the standard's.
use Rattle.std.specs.Prelude.{◌+◌, ◌^◌, ◌<◌, ◌≡◌, ◌∷◌, ◌++◌}
use Rattle.wire.proofs.Kit.{ℕ, zero, suc, refl, ap, ◌∙◌, List, [], append-nil, Bool, true, false, arith, length, leb, le-leb}
use Rattle.wire.proofs.Kit.{leb-true, leb-false}
use Rattle.wire.specs.Number.{digits}
use Rattle.wire.specs.Utf8.{ends}
use Rattle.wire.specs.Field.{bytes_at}
use Rattle.wire.proofs.Stands.{length_bytes}
use Rattle.image.specs.declared.record.Field.{Field}
use Rattle.image.specs.declared.record.Record.{Record}
use Rattle.image.specs.declared.record.Record.TheVariants as R
use Rattle.image.specs.declared.writing.Row.{Row as Put}
use Rattle.image.specs.Record.{◌bytes◌, none, layout_of, field_bytes}
use Rattle.image.specs.Taking.{Fits}
use Rattle.image.specs.Out.{named_of, row_bytes}
use Rattle.amf0.specs.declared.write.Rest.{Rest}
use Rattle.amf0.specs.declared.write.Rest.TheVariants.{Nothing, Pairs, Dense, Values}
use Rattle.amf0.specs.Shape as S
use Rattle.amf0.specs.Standard.{Item, short_most, Row, UTF-8, Content, content}
use Rattle.amf0.specs.Standard.UTF-8.{short}
use Rattle.amf0.specs.Standard.UTF-8-long.{long}
use Rattle.amf0.specs.Shown.{Word, look, Stands, Named}
use Rattle.amf0.specs.Shown.Word.{item, name, close, other}
use Rattle.amf0.specs.Writing.{plain, texted, shape_of, kinds, among}
use Rattle.amf0.specs.Written.{write_item}

-- what follows the bytes of an item
abbrev pub rest_of : Content → Rest
rest_of Content.nothing = Nothing
rest_of Content.named = Pairs
rest_of Content.associative = Dense
rest_of (Content.ordered n) = Values n

-- a record of an item is put out as that is written
pub record Itemed (s : List ℕ) (r : Record) (i : Item) : Type 0 where
  pub row : Put
  pub shape : shape_of r ≡ S.Value row (rest_of (content i))
  pub named : named_of s row ≡ true
  pub puts : row_bytes s row ≡ write_item i
  pub grammar : Row i (write_item i)
  pub kind : among kinds (layout_of r).kind ≡ true

-- a key's record is put out as a short text
pub record Keyed (s : List ℕ) (r : Record) (k : List ℕ) : Type 0 where
  pub row : Put
  pub shape : shape_of r ≡ S.Key row
  pub named : named_of s row ≡ true
  pub puts : row_bytes s row ≡ digits 2 (length k) ++ k
  pub grammar : UTF-8 k (digits 2 (length k) ++ k)
  pub kind : among kinds (layout_of r).kind ≡ false

-- the end's record is put out as an empty key and the end marker
pub record Closed (s : List ℕ) (r : Record) : Type 0 where
  pub row : Put
  pub shape : shape_of r ≡ S.End row
  pub named : named_of s row ≡ true
  pub puts : row_bytes s row ≡ 0 ∷ 0 ∷ 0x09 ∷ []
  pub kind : among kinds (layout_of r).kind ≡ false

-- a text that stands is a short one
pub short_text : {s k : List ℕ} {p n : ℕ} → bytes_at n s p ≡ k → Stands s p n → n < 256 ^ 2 → UTF-8 k (digits 2 (length k) ++ k)
short_text {s} {k} {p} {n} e h b =
    let same : length k ≡ n = rw e at (length_bytes n s p h.inside) in
    short k (omega arith) (rw e at h.right)

abbrev pub Says : List ℕ → Record → Word → Type 0
Says s r (item i) = Itemed s r i
Says s r (name k) = Keyed s r k
Says s r close = Closed s r
Says s r other = Unit {0}

module _ (s : List ℕ) where
  empty_named : (m a b : Field) → named_of s (record { mark = m; a = a; b = b; place = 0; length = 0 }) ≡ true
  unfolding ends
  empty_named m a b = rw (le-leb 0 (length s) (omega arith))

  empty_bytes : (m a b : Field) → row_bytes s (record { mark = m; a = a; b = b; place = 0; length = 0 }) ≡ field_bytes m ++ (field_bytes a ++ field_bytes b)
  empty_bytes m a b = rw (le-leb 0 (length s) (omega arith)) (ap (λ x. field_bytes m ++ (field_bytes a ++ x)) (append-nil (field_bytes b)))

  plained : {r : Record} {i : Item} (m : ℕ) (a b : Field) → shape_of r ≡ S.Value (plain m a b) (rest_of (content i))
      → digits 1 m ++ (field_bytes a ++ field_bytes b) ≡ write_item i → Row i (write_item i) → among kinds (layout_of r).kind ≡ true → Itemed s r i
  plained m a b e f g k =
      record { row = plain m a b; shape = e; named = empty_named (1 bytes m) a b; puts = empty_bytes (1 bytes m) a b ∙ f; grammar = g; kind = k }

  module _ (p n : ℕ) (h : Stands s p n) where
    text_named : (m : Field) (w : ℕ) → named_of s (texted m w p n) ≡ true
    text_named m w = rw (le-leb (p + n) (length s) h.inside) h.right

    text_long : length (bytes_at n s p) ≡ n
    text_long = length_bytes n s p h.inside

    text_bytes : (m : Field) (w : ℕ) → row_bytes s (texted m w p n) ≡ field_bytes m ++ (digits w (length (bytes_at n s p)) ++ bytes_at n s p)
    text_bytes m w = rw (le-leb (p + n) (length s) h.inside, text_long)

    texts : {r : Record} {i : Item} (m w : ℕ) → shape_of r ≡ S.Value (texted (1 bytes m) w p n) (rest_of (content i))
        → digits 1 m ++ (digits w (length (bytes_at n s p)) ++ bytes_at n s p) ≡ write_item i → Row i (write_item i) → among kinds (layout_of r).kind ≡ true
        → Itemed s r i
    texts m w e f g k =
        record { row = texted (1 bytes m) w p n; shape = e; named = text_named (1 bytes m) w; puts = text_bytes (1 bytes m) w ∙ f; grammar = g; kind = k }

    string : n < 256 ^ 3 → (t : Bool) → leb n short_most ≡ t → Itemed s (R.Text p n) (Item.string (bytes_at n s p))
    string b true e =
        let f : leb (length (bytes_at n s p)) short_most ≡ true = rw text_long e in
        texts 0x02 2 (rw e) (rw f) (rw f (Row.string (short_text refl h (omega (arith, leb-true n short_most e))))) refl
    string b false e =
        let f : leb (length (bytes_at n s p)) short_most ≡ false = rw text_long e in
        texts 0x0C 4 (rw e) (rw f) (rw f (Row.long_string (long (bytes_at n s p) (omega (arith, text_long)) h.right) (leb-false _ _ f))) refl

  boolean : (b : Bool) → Itemed s (R.Boolean b) (Item.boolean b)
  boolean true = plained 0x01 _ _ refl refl Row.boolean_true refl
  boolean false = plained 0x01 _ _ refl refl Row.boolean_false refl

  -- a date is put out with its zone, or with 0 where it has none
  dated : (n : ℕ) (present : Bool) (z : ℕ) → n < 256 ^ 8 → z < 256 ^ 2 → Itemed s (R.Date n present z) (Item.date n z)
  dated n present zero a c = plained 0x0B _ _ refl refl (Row.date n a) refl
  dated n present (suc z) a c = plained 0x0B _ _ refl refl (Row.departure_any_zone n (suc z) a (omega arith) c) refl

  pub says : (r : Record) → Fits r → Named s r → Says s r (look s r)
  says (R.Number n) f h = plained 0x00 _ _ refl refl (Row.number n f.a) refl
  says (R.Boolean b) f h = boolean b
  says (R.Text p n) f h = string p n h.0 f.b _ refl
  says R.Object f h = plained 0x03 _ _ refl refl Row.object refl
  says R.Null f h = plained 0x05 _ _ refl refl Row.null refl
  says R.Undefined f h = plained 0x06 _ _ refl refl Row.undefined refl
  says (R.Reference n) f h = plained 0x07 _ _ refl refl (Row.departure_any_index n f.a) refl
  says (R.EcmaArray n) f h = plained 0x08 _ _ refl refl (Row.departure_any_count n f.a) refl
  says R.ObjectEnd f h = record { row = _; shape = refl; named = empty_named (3 bytes 9) none none; puts = empty_bytes (3 bytes 9) none none; kind = refl }
  says (R.StrictArray n) f h = plained 0x0A _ _ refl refl (Row.strict_array n f.a) refl
  says (R.Date n present z) f h = dated n present z f.a f.c
  says R.Unsupported f h = plained 0x0D _ _ refl refl Row.unsupported refl
  says (R.Xml p n) f h =
      texts p n h.0 0x0F 4 refl refl (Row.xml_document (long (bytes_at n s p) (omega (arith, text_long p n h.0, f.b)) h.0.right)) refl
  says (R.TypedObject p n) f h = texts p n h.0 0x10 2 refl refl (Row.typed_object (short_text refl h.0 f.b)) refl
  says (R.Key p n) f h =
      record { row = _; shape = refl; named = text_named p n h.0 none 2; puts = text_bytes p n h.0 none 2; grammar = short_text refl h.0 f.b; kind = refl }
  says (R.Packet k m) f h = tt
  says (R.Header p n b) f h = tt
  says (R.Message p n q m) f h = tt
  says (R.Lso l p n) f h = tt
