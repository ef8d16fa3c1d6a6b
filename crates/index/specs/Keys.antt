-- The keys of an image, in the order of reading: each is put out as its mark, and the image's own refusals end the walk.
use Rattle.std.specs.Prelude.{ℕ, zero, suc, ◌+◌, ◌-◌, List, Bool, true, false, leb, eqb, length, Option, Some, None}
use Rattle.wire.specs.Choice.{pick}
use Rattle.wire.specs.Field.{to}
use Rattle.wire.specs.Limit as limit
use Rattle.wire.specs.declared.cursor.Cursor.{Cursor}
use Rattle.image.specs.declared.record.Record.{Record}
use Rattle.image.specs.declared.record.Record.TheVariants as R
use Rattle.image.specs.Taking.{Taken, record_at}
use Rattle.image.specs.Out.{Out, end, stop, put, ◌>>=◌, named_at}
use Rattle.amf0.specs.Writing.{value_at}
use Rattle.index.specs.declared.walk.Rest.{Rest}
use Rattle.index.specs.declared.walk.Rest.TheVariants.{Nothing, Pairs, Dense, Body, Values}
use Rattle.index.specs.declared.walk.Role.{Role}
use Rattle.index.specs.declared.walk.Coming.{Coming}
use Rattle.index.specs.Mark.{mark, mark_bytes}

-- what each record is, with the text that it names and what follows it
abbrev pub role_of : Record → Role
role_of (R.Number n) = Role.Value 0 0 Nothing
role_of (R.Boolean b) = Role.Value 0 0 Nothing
role_of (R.Text p n) = Role.Value p n Nothing
role_of R.Object = Role.Value 0 0 Pairs
role_of R.Null = Role.Value 0 0 Nothing
role_of R.Undefined = Role.Value 0 0 Nothing
role_of (R.Reference n) = Role.Value 0 0 Nothing
role_of (R.EcmaArray n) = Role.Value 0 0 Dense
role_of R.ObjectEnd = Role.End
role_of (R.StrictArray n) = Role.Value 0 0 (Values n)
role_of (R.Date n present zone) = Role.Value 0 0 Nothing
role_of R.Unsupported = Role.Value 0 0 Nothing
role_of (R.Xml p n) = Role.Value p n Nothing
role_of (R.TypedObject p n) = Role.Value p n Pairs
role_of (R.Key p n) = Role.Key p n
role_of (R.Packet h m) = Role.Other
role_of (R.Header p n f) = Role.Other
role_of (R.Message p n q m) = Role.Other
role_of (R.Lso l p n) = Role.File p n

abbrev pub role_in : Taken → Role
role_in (Some x) = role_of x.0
role_in None = Role.Other

-- what stands at a place of an image
unfoldable pub role_at : List ℕ → ℕ → Role
role_at image at = role_in (record_at image at)

-- the cursor behind a value's record, and what follows; or none stands there
abbrev pub Begun : Type 0
Begun = Option (Cursor × Rest)

abbrev pub begun_to : Cursor → Rest → Begun
begun_to c f = Some (c, f)

module _ (text : List ℕ) where
  abbrev pub own_by : Role → Cursor → Begun
  own_by (Role.Value p n f) c = pick (named_at text p n) (begun_to c f) None
  own_by (Role.Key p n) c = None
  own_by (Role.File p n) c = None
  own_by Role.End c = None
  own_by Role.Other c = None

  abbrev pub own_in : Taken → Begun
  own_in (Some x) = own_by (role_of x.0) x.1
  own_in None = None

  -- a key's record, with what is due behind its value; or the end's, where it may stand
  abbrev pub key_by : Rest → Bool → Role → Cursor → Option Coming
  key_by due ends (Role.Value p n f) c = None
  key_by due ends (Role.Key p n) c = pick (named_at text p n) (Some (Coming.Key c due)) None
  key_by due ends (Role.File p n) c = None
  key_by due ends Role.End c = pick ends (Some (Coming.Done c)) None
  key_by due ends Role.Other c = None

  abbrev pub key_in : Rest → Bool → Taken → Option Coming
  key_in due ends (Some x) = key_by due ends (role_of x.0) x.1
  key_in due ends None = None

module _ (image text : List ℕ) where
  -- the value's record at a place, and what follows it
  unfoldable pub own_of : ℕ → Begun
  own_of at = own_in text (record_at image at)

  -- the key's record at a place, or the end's
  unfoldable pub pair_at : Rest → Bool → ℕ → Option Coming
  pair_at due ends at = key_in text due ends (record_at image at)

  -- what comes at a place, where this is due
  unfoldable pub turn_of : Rest → ℕ → Option Coming
  turn_of Nothing at = Some (Coming.Done (to at))
  turn_of (Values n) at = pick (eqb n 0) (Some (Coming.Done (to at))) (Some (Coming.Value (to at) (Values (n - 1))))
  turn_of Dense at = pick (value_at image at) (Some (Coming.Value (to at) Dense)) (pair_at Pairs true at)
  turn_of Pairs at = pair_at Pairs true at
  turn_of Body at = pick (leb (length image) at) (Some (Coming.Done (to at))) (pair_at Body false at)

abbrev pub turned : ℕ → Option Coming → (ℕ → Rest → Out) → (ℕ → Rest → Out) → Out
turned at (Some (Coming.Done c)) value key = end c.at
turned at (Some (Coming.Value c due)) value key = value c.at due
turned at (Some (Coming.Key c due)) value key = key c.at due
turned at None value key = stop 6 at

abbrev pub owned : ℕ → Begun → (ℕ → Rest → Out) → Out
owned at (Some x) k = k x.0.at x.1
owned at None k = stop 6 at

-- What follows the record at a place, whose values stand at a depth. Each turn takes bytes of the image, so its length bounds their number.
module _ (inner : ℕ → Out) (image text : List ℕ) (place depth : ℕ) where
  unfoldable pub rest : ℕ → Rest → ℕ → Out
  rest zero due at = stop 6 at
  rest (suc fuel) due at =
      turned at (turn_of image text due at)
      (λ q then. inner q >>= rest fuel then)
      (λ q then. put (mark_bytes (mark depth place at q)) (inner q >>= rest fuel then))

-- a value at a place, so many levels left
unfoldable pub value : ℕ → List ℕ → List ℕ → ℕ → Out
value zero image text at = stop (pick (value_at image at) 5 6) at
value (suc left) image text at =
    owned at (own_of image text at) λ q due. rest (value left image text) image text at (limit.levels + 1 - left) (suc (length image)) due q
