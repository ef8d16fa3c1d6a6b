-- What a record is to a writing of values.
use Rattle.image.specs.declared.writing.Row.{Row}
use Rattle.amf0.specs.declared.write.Rest.{Rest}

pub data Shape : Type 0 where
  -- a value's: its own bytes, and what follows them
  Value : (w : Row) (f : Rest) → Shape
  -- a key's, or the end's of pairs
  Key : (w : Row) → Shape
  End : (w : Row) → Shape
  Other : Shape
