-- What writing a file puts out: the rules "LSO file", "Writing checks first" and "What is written" (docs/DEMANDS.md).
use Rattle.std.specs.Prelude.{ℕ, zero, suc, ◌+◌, List, length, take, drop, leb}
use Rattle.wire.specs.Choice.{pick}
use Rattle.wire.specs.Number.{number}
use Rattle.wire.specs.Limit as limit
use Rattle.image.specs.declared.writing.Row.{Row}
use Rattle.image.specs.Kind as kind
use Rattle.image.specs.Record.{◌bytes◌, none}
use Rattle.image.specs.Out.{Out, end, ◌>>=◌, row_of, row, bytes as bytes_out, Written, unwritten, settled}
use Rattle.amf0.specs.Writing.{texted, top_value, asked}
use Rattle.lso.specs.File.{version, signature, padding}

-- the header's rows: the version of the form and the length that it says; the signature and the name; the padding
abbrev pub opening : ℕ → Row
opening stored = row_of (2 bytes number version) (4 bytes stored) none 0 0

abbrev pub naming : ℕ → ℕ → Row
naming p n = row_of (4 bytes number (take 4 signature)) (6 bytes number (drop 4 signature)) (2 bytes n) p n

abbrev pub closing : Row
closing = row_of (4 bytes number padding) none none 0 0

-- the header
abbrev pub header : ℕ → List ℕ → ℕ → ℕ → Out → Out
header stored text p n d = row text (opening stored) 0 (row text (naming p n) 0 (row text closing 0 d))

-- an element's rows: its key, and the zero behind its value
abbrev pub keying : ℕ → ℕ → Row
keying p n = texted none 2 p n

abbrev pub zero_byte : Row
zero_byte = row_of (1 bytes 0) none none 0 0

-- a key, its value and a zero
unfoldable pub element : List ℕ → List ℕ → ℕ → Out
element image text at =
    asked image kind.key at λ key q.
    row text (keying key.a.number key.b.number) at
    (top_value image text q >>= λ e. row text zero_byte at (end e))

-- elements to the image's end; each takes bytes of the image, so the image's length bounds their number
unfoldable pub body : List ℕ → List ℕ → ℕ → ℕ → Out
body image text zero at = end at
body image text (suc fuel) at = pick (leb (length image) at) (end at) (element image text at >>= body image text fuel)

-- the file: its header says a length that goes by its name's length and its body's
unfoldable pub file : (ℕ → ℕ → ℕ) → List ℕ → List ℕ → Out
file says image text =
    asked image kind.lso 0 λ own q.
    header (says own.c.number (length (bytes_out (body image text (length image) q)))) text own.b.number own.c.number (body image text (length image) q)

-- a written length is 16 plus the name's length plus the body's
abbrev pub length_of : ℕ → ℕ → ℕ
length_of name body = 16 + name + body

-- what the public call comes to, in a room
abbrev pub write_of : List ℕ → List ℕ → ℕ → Written
write_of image text room =
    pick (leb (length text) limit.bytes)
    (pick (leb (length image) limit.image) (settled (file length_of image text) room) (unwritten 1))
    (unwritten 1)
