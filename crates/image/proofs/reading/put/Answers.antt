-- Each arm lays the record that the match says it is.
use Rattle.image.proofs.Laws.{put_record}
use Rattle.image.proofs.reading.put.Goals as goal

pub returns-in-Number : goal.returns-in-Number
returns-in-Number c = let both = put_record _ _ _ _ _ _ (rw c.in-Number.is) (c.put_one.ensures.image_after, c.put_one.ensures.within) in record { image_after = both.0; within = both.1 }

pub returns-in-Boolean : goal.returns-in-Boolean
returns-in-Boolean c = let both = put_record _ _ _ _ _ _ (rw (c.in-Boolean.is, ← c.bit.ensures)) (c.put_one-in-Boolean.ensures.image_after, c.put_one-in-Boolean.ensures.within) in record { image_after = both.0; within = both.1 }

pub returns-in-Text : goal.returns-in-Text
returns-in-Text c = let both = put_record _ _ _ _ _ _ (rw c.in-Text.is) (c.put_two.ensures.image_after, c.put_two.ensures.within) in record { image_after = both.0; within = both.1 }

pub returns-in-Object : goal.returns-in-Object
returns-in-Object c = let both = put_record _ _ _ _ _ _ (rw c.in-Object.is) (c.put_bare.ensures.image_after, c.put_bare.ensures.within) in record { image_after = both.0; within = both.1 }

pub returns-in-Null : goal.returns-in-Null
returns-in-Null c = let both = put_record _ _ _ _ _ _ (rw c.in-Null.is) (c.put_bare-in-Null.ensures.image_after, c.put_bare-in-Null.ensures.within) in record { image_after = both.0; within = both.1 }

pub returns-in-Undefined : goal.returns-in-Undefined
returns-in-Undefined c = let both = put_record _ _ _ _ _ _ (rw c.in-Undefined.is) (c.put_bare-in-Undefined.ensures.image_after, c.put_bare-in-Undefined.ensures.within) in record { image_after = both.0; within = both.1 }

pub returns-in-Reference : goal.returns-in-Reference
returns-in-Reference c = let both = put_record _ _ _ _ _ _ (rw c.in-Reference.is) (c.put_one-in-Reference.ensures.image_after, c.put_one-in-Reference.ensures.within) in record { image_after = both.0; within = both.1 }

pub returns-in-EcmaArray : goal.returns-in-EcmaArray
returns-in-EcmaArray c = let both = put_record _ _ _ _ _ _ (rw c.in-EcmaArray.is) (c.put_one-in-EcmaArray.ensures.image_after, c.put_one-in-EcmaArray.ensures.within) in record { image_after = both.0; within = both.1 }

pub returns-in-ObjectEnd : goal.returns-in-ObjectEnd
returns-in-ObjectEnd c = rw c.in-ObjectEnd.is (record { image_after = c.put_end.ensures.image_after; within = c.put_end.ensures.within })

pub returns-in-StrictArray : goal.returns-in-StrictArray
returns-in-StrictArray c = let both = put_record _ _ _ _ _ _ (rw c.in-StrictArray.is) (c.put_one-in-StrictArray.ensures.image_after, c.put_one-in-StrictArray.ensures.within) in record { image_after = both.0; within = both.1 }

pub returns-in-Date : goal.returns-in-Date
returns-in-Date c = let both = put_record _ _ _ _ _ _ (rw (c.in-Date.is, ← c.bit-in-Date.ensures)) (c.put_three.ensures.image_after, c.put_three.ensures.within) in record { image_after = both.0; within = both.1 }

pub returns-in-Unsupported : goal.returns-in-Unsupported
returns-in-Unsupported c = let both = put_record _ _ _ _ _ _ (rw c.in-Unsupported.is) (c.put_bare-in-Unsupported.ensures.image_after, c.put_bare-in-Unsupported.ensures.within) in record { image_after = both.0; within = both.1 }

pub returns-in-Xml : goal.returns-in-Xml
returns-in-Xml c = let both = put_record _ _ _ _ _ _ (rw c.in-Xml.is) (c.put_two-in-Xml.ensures.image_after, c.put_two-in-Xml.ensures.within) in record { image_after = both.0; within = both.1 }

pub returns-in-TypedObject : goal.returns-in-TypedObject
returns-in-TypedObject c = let both = put_record _ _ _ _ _ _ (rw c.in-TypedObject.is) (c.put_two-in-TypedObject.ensures.image_after, c.put_two-in-TypedObject.ensures.within) in record { image_after = both.0; within = both.1 }

pub returns-in-Key : goal.returns-in-Key
returns-in-Key c = rw c.in-Key.is (record { image_after = c.put_key.ensures.image_after; within = c.put_key.ensures.within })

pub returns-in-Packet : goal.returns-in-Packet
returns-in-Packet c = let both = put_record _ _ _ _ _ _ (rw c.in-Packet.is) (c.put_two-in-Packet.ensures.image_after, c.put_two-in-Packet.ensures.within) in record { image_after = both.0; within = both.1 }

pub returns-in-Header : goal.returns-in-Header
returns-in-Header c = let both = put_record _ _ _ _ _ _ (rw (c.in-Header.is, ← c.bit-in-Header.ensures)) (c.put_three-in-Header.ensures.image_after, c.put_three-in-Header.ensures.within) in record { image_after = both.0; within = both.1 }

pub returns-in-Message : goal.returns-in-Message
returns-in-Message c = let both = put_record _ _ _ _ _ _ (rw c.in-Message.is) (c.put_four.ensures.image_after, c.put_four.ensures.within) in record { image_after = both.0; within = both.1 }

pub returns-in-Lso : goal.returns-in-Lso
returns-in-Lso c = let both = put_record _ _ _ _ _ _ (rw c.in-Lso.is) (c.put_three-in-Lso.ensures.image_after, c.put_three-in-Lso.ensures.within) in record { image_after = both.0; within = both.1 }
