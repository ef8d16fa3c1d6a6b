-- What each marker marks.
use Rattle.std.specs.Prelude.{ℕ, List, [], ◌∷◌, get_or, Option, Some, None}
use Rattle.amf0.specs.declared.type_marker.TypeMarker.{TypeMarker}
use Rattle.amf0.specs.declared.type_marker.TypeMarker.TheVariants.{Number, Boolean, String, Object, Null, Undefined, Reference, EcmaArray, StrictArray, Date, LongString, Unsupported, Xml, TypedObject, Amf3}

-- in the order of their numbers; 04, 09 and 0E (MovieClip, ObjectEnd and RecordSet) mark no value
abbrev pub markers : List (Option TypeMarker)
markers =
    Some Number
    ∷ Some Boolean
    ∷ Some String
    ∷ Some Object
    ∷ None
    ∷ Some Null
    ∷ Some Undefined
    ∷ Some Reference
    ∷ Some EcmaArray
    ∷ None
    ∷ Some StrictArray
    ∷ Some Date
    ∷ Some LongString
    ∷ Some Unsupported
    ∷ None
    ∷ Some Xml
    ∷ Some TypedObject
    ∷ Some Amf3
    ∷ []

-- a marker above 11 hex reads as Unsupported
unfoldable pub marker_of : ℕ → Option TypeMarker
marker_of m = get_or markers m (Some Unsupported)
