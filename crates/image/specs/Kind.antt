-- The kinds of records, in the order of the rule "Tree image" (docs/DEMANDS.md).
use Rattle.std.specs.Prelude.{ℕ}

abbrev pub number : ℕ
number = 0x00

abbrev pub boolean : ℕ
boolean = 0x01

abbrev pub text : ℕ
text = 0x02

abbrev pub xml : ℕ
xml = 0x0F

abbrev pub object : ℕ
object = 0x03

abbrev pub null : ℕ
null = 0x05

abbrev pub undefined : ℕ
undefined = 0x06

abbrev pub object_end : ℕ
object_end = 0x09

abbrev pub unsupported : ℕ
unsupported = 0x0D

abbrev pub reference : ℕ
reference = 0x07

abbrev pub ecma_array : ℕ
ecma_array = 0x08

abbrev pub strict_array : ℕ
strict_array = 0x0A

abbrev pub date : ℕ
date = 0x0B

abbrev pub typed_object : ℕ
typed_object = 0x10

abbrev pub key : ℕ
key = 0x20

abbrev pub packet : ℕ
packet = 0x30

abbrev pub header : ℕ
header = 0x31

abbrev pub message : ℕ
message = 0x32

abbrev pub lso : ℕ
lso = 0x33
