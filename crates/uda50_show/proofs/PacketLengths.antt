-- How long the text of a packet is at most.
use Rattle.std.proofs.Common.{ℕ, ◌==◌, ◌+◌, ◌<◌, ◌≤◌, ◌^◌, Bool, true, false, List, ◌++◌, length, codes, decimal, Option, Some, None, if◌then◌else◌, arith, rules}
use Rattle.std.proofs.lemmas.Fmt.{length-decimal-le}
use Rattle.std.proofs.lemmas.List.{length-append}
use Rattle.uda_disk.specs.Status.{status_name}
use Rattle.uda_packet.specs.declared.bad.Bad.{Bad}
use Rattle.uda_packet.specs.declared.bad.BadKind.{BadKind}
use Rattle.uda_packet.specs.declared.bad.BadKind.TheVariants as fault
use Rattle.uda_packet.specs.declared.command.Op.{Op}
use Rattle.uda_packet.specs.declared.command.Op.TheVariants as op
use Rattle.uda_packet.specs.declared.command.Command.{Command}
use Rattle.uda_packet.specs.declared.end.Kind.TheVariants as kind
use Rattle.uda_packet.specs.declared.end.End.{End}
use Rattle.uda_packet.specs.declared.end.EndBody.{EndBody}
use Rattle.uda_packet.specs.declared.end.EndBody.TheVariants as body
use Rattle.uda_packet.specs.declared.transfer.Transfer.{Transfer}
use Rattle.uda_packet.specs.Bad.{bad_end}
use Rattle.uda_packet.specs.Commands.{BodyFits}
use Rattle.uda_packet.specs.Display.{body_name, op_name, fault_display}
use Rattle.uda_packet.specs.Opcode.{opcode_of, end_code, blank_body, parameters}
use Rattle.uda_packet.specs.Range.{EntriesFit}
use Rattle.uda_packet.specs.Transfer.{has_buffer}
use Rattle.uda50_show.specs.Hex.{hex_byte, hex_word, hex_long}
use Rattle.uda50_show.specs.PacketText.{line, named_status, protection_name, flags_line, size_line, size_end, result_lines, end_message_text, request_lines, head_lines, buffer_line, transfer_lines, protection_line, parameter_lines, command_text, bad_title, bad_text}

-- ---- names

if_short : (b : Bool) (xs ys : List ℕ) (k : ℕ) → length xs ≤ k → length ys ≤ k → length (if b then xs else ys) ≤ k
if_short true xs ys k first second = first
if_short false xs ys k first second = second

status_name_short : (word : ℕ) → length (status_name word) ≤ 29
unfolding status_name
status_name_short word = search (rules, if_short, arith)

protection_name_short : (flags : ℕ) → length (protection_name flags) ≤ 41
protection_name_short flags = search (rules, if_short, arith)

body_name_short : (b : EndBody) → length (body_name b) ≤ 30
body_name_short body.Invalid = omega arith
body_name_short (body.Status flags) = omega arith
body_name_short body.Controller = omega arith
body_name_short body.Available = omega arith
body_name_short (body.Online flags size) = omega arith
body_name_short (body.Moved kind.Access bytes) = omega arith
body_name_short (body.Moved kind.Erase bytes) = omega arith
body_name_short (body.Moved kind.Read bytes) = omega arith
body_name_short (body.Moved kind.Write bytes) = omega arith

fault_short : (f : BadKind) → length (fault_display f) ≤ 35
fault_short fault.Opcode = omega arith
fault_short fault.Modifiers = omega arith
fault_short fault.Version = omega arith

long_short : (n : ℕ) → n < 2 ^ 32 → length (decimal n) ≤ 10
long_short n small = length-decimal-le 10 n (omega arith) (omega arith) (omega arith)

word_short : (n : ℕ) → n < 2 ^ 16 → length (decimal n) ≤ 5
word_short n small = length-decimal-le 5 n (omega arith) (omega arith) (omega arith)

-- ---- lines

both_short : (xs ys : List ℕ) (i j : ℕ) → length xs ≤ i → length ys ≤ j → length (xs ++ ys) ≤ i + j
both_short xs ys i j first second = omega (arith, length-append xs ys)

line_short : (label value : List ℕ) (i j : ℕ) → length label ≤ i → length value ≤ j → length (line label value) ≤ i + j + 1
line_short label value i j first second = omega (arith, length-append (label ++ value) (codes "\n"), length-append label value)

named_status_short : (status : ℕ) → length (named_status status) ≤ 36
named_status_short status =
    both_short (hex_word status ++ codes " (" ++ status_name status) (codes ")") 35 1
    (both_short (hex_word status ++ codes " (") (status_name status) 6 29 (omega arith) (status_name_short status)) (omega arith)

flags_line_short : (flags : ℕ) → length (flags_line flags) ≤ 62
flags_line_short flags =
    line_short (codes "  unit flags  0x") (hex_word flags ++ protection_name flags) 16 45 (omega arith)
    (both_short (hex_word flags) (protection_name flags) 4 41 (omega arith) (protection_name_short flags))

size_line_short : (size : ℕ) → size < 2 ^ 32 → length (size_line size) ≤ 32
size_line_short size small =
    both_short (codes "  unit size   " ++ decimal size) (size_end size) 24 8
    (both_short (codes "  unit size   ") (decimal size) 14 10 (omega arith) (long_short size small))
    (if_short (size == 1) (codes " block\n") (codes " blocks\n") 8 (omega arith) (omega arith))

result_lines_short : (b : EndBody) → BodyFits b → length (result_lines b) ≤ 94
result_lines_short body.Invalid fits = omega arith
result_lines_short (body.Status flags) fits = omega (arith, flags_line_short flags)
result_lines_short body.Controller fits = omega arith
result_lines_short body.Available fits = omega arith
result_lines_short (body.Online flags size) fits =
    both_short (flags_line flags) (size_line size) 62 32 (flags_line_short flags) (size_line_short size fits.1)
result_lines_short (body.Moved which bytes) fits =
    omega (arith, line_short (codes "  byte count  ") (decimal bytes) 14 10 (omega arith) (long_short bytes fits))

request_lines_short : (reference unit : ℕ) → reference < 2 ^ 32 → unit < 2 ^ 16 → length (request_lines reference unit) ≤ 45
request_lines_short reference unit long word =
    both_short (line (codes "  reference   ") (decimal reference)) (line (codes "  unit        ") (decimal unit)) 25 20
    (line_short (codes "  reference   ") (decimal reference) 14 10 (omega arith) (long_short reference long))
    (line_short (codes "  unit        ") (decimal unit) 14 5 (omega arith) (word_short unit word))

head_lines_short : (reference unit opcode modifiers : ℕ) → reference < 2 ^ 32 → unit < 2 ^ 16
    → length (head_lines reference unit opcode modifiers) ≤ 85
head_lines_short reference unit opcode modifiers long word =
    let a = request_lines reference unit in
    let b = line (codes "  opcode      0x") (hex_byte opcode) in
    let d = line (codes "  modifiers   0x") (hex_word modifiers) in
    both_short (a ++ b) d 64 21
    (both_short a b 45 19 (request_lines_short reference unit long word)
    (line_short (codes "  opcode      0x") (hex_byte opcode) 16 2 (omega arith) (omega arith)))
    (line_short (codes "  modifiers   0x") (hex_word modifiers) 16 4 (omega arith) (omega arith))

-- ---- packets

pub end_short : (e : End) → e.reference < 2 ^ 32 → e.unit < 2 ^ 16 → BodyFits e.body → length (end_message_text e) ≤ 256
end_short e long word fits =
    let a = line (codes "end message: ") (body_name e.body) in
    let b = request_lines e.reference e.unit in
    let d = line (codes "  end code    0x") (hex_byte (end_code e.body)) in
    let f = line (codes "  status      0x") (named_status e.status) in
    let all = both_short (a ++ b ++ d ++ f) (result_lines e.body) 161 94
    (both_short (a ++ b ++ d) f 108 53
    (both_short (a ++ b) d 89 19
    (both_short a b 44 45 (line_short (codes "end message: ") (body_name e.body) 13 30 (omega arith) (body_name_short e.body))
    (request_lines_short e.reference e.unit long word))
    (line_short (codes "  end code    0x") (hex_byte (end_code e.body)) 16 2 (omega arith) (omega arith)))
    (line_short (codes "  status      0x") (named_status e.status) 16 36 (omega arith) (named_status_short e.status)))
    (result_lines_short e.body fits) in
    omega (arith, all)

protection_line_short : (soft : Option Bool) → length (protection_line soft) ≤ 75
protection_line_short None = omega arith
protection_line_short (Some true) = omega arith
protection_line_short (Some false) = omega arith

-- the numbers of a transfer are in the ranges of their types
pub record TransferFits (t : Transfer) : Type 0 where
  pub bytes : t.bytes < 2 ^ 32
  pub lbn : t.lbn < 2 ^ 32

buffer_line_short : (has : Bool) (address : ℕ) → length (buffer_line has address) ≤ 25
buffer_line_short true address = line_short (codes "  buffer      0x") (hex_long address) 16 8 (omega arith) (omega arith)
buffer_line_short false address = omega arith

transfer_lines_short : (t : Transfer) → TransferFits t → length (transfer_lines (Some t)) ≤ 75
transfer_lines_short t fits =
    let a = line (codes "  byte count  ") (decimal t.bytes) in
    let b = buffer_line (has_buffer t.kind) t.buffer in
    both_short (a ++ b) (line (codes "  lbn         ") (decimal t.lbn)) 50 25
    (both_short a b 25 25 (line_short (codes "  byte count  ") (decimal t.bytes) 14 10 (omega arith) (long_short t.bytes fits.bytes))
    (buffer_line_short (has_buffer t.kind) t.buffer))
    (line_short (codes "  lbn         ") (decimal t.lbn) 14 10 (omega arith) (long_short t.lbn fits.lbn))

parameter_lines_short : (o : Op) → EntriesFit (parameters o) → length (parameter_lines o) ≤ 75
parameter_lines_short op.Status fits = omega arith
parameter_lines_short op.Controller fits = omega arith
parameter_lines_short op.Available fits = omega arith
parameter_lines_short (op.Online soft) fits = protection_line_short soft
parameter_lines_short (op.Access bytes lbn) fits =
    transfer_lines_short (record { kind = kind.Access; bytes = bytes; lbn = lbn; buffer = 0 }) (record { bytes = fits.0; lbn = fits.1.0 })
parameter_lines_short (op.Erase bytes lbn) fits =
    transfer_lines_short (record { kind = kind.Erase; bytes = bytes; lbn = lbn; buffer = 0 }) (record { bytes = fits.0; lbn = fits.1.0 })
parameter_lines_short (op.Read bytes address lbn) fits =
    transfer_lines_short (record { kind = kind.Read; bytes = bytes; lbn = lbn; buffer = address }) (record { bytes = fits.0; lbn = fits.1.1.0 })
parameter_lines_short (op.Write bytes address lbn) fits =
    transfer_lines_short (record { kind = kind.Write; bytes = bytes; lbn = lbn; buffer = address }) (record { bytes = fits.0; lbn = fits.1.1.0 })

pub command_short : (c : Command) (modifiers : ℕ) → c.reference < 2 ^ 32 → c.unit < 2 ^ 16 → EntriesFit (parameters c.op)
    → length (command_text c modifiers) ≤ 256
command_short c modifiers long word fits =
    let title = line (codes "command: ") (op_name c.op) in
    let head = head_lines c.reference c.unit (opcode_of c.op) modifiers in
    let all = both_short (title ++ head) (parameter_lines c.op) 125 75
    (both_short title head 40 85 (line_short (codes "command: ") (op_name c.op) 9 30 (omega arith) (body_name_short (blank_body c.op)))
    (head_lines_short c.reference c.unit (opcode_of c.op) modifiers long word))
    (parameter_lines_short c.op fits) in
    omega (arith, all)

invalid_short : (name : List ℕ) → length name ≤ 30 → length (codes "invalid command, " ++ name ++ codes ": ") ≤ 49
invalid_short name short =
    both_short (codes "invalid command, " ++ name) (codes ": ") 47 2
    (both_short (codes "invalid command, ") name 17 30 (omega arith) short) (omega arith)

bad_title_short : (f : BadKind) (name : List ℕ) → length name ≤ 30 → length (bad_title f name) ≤ 49
bad_title_short fault.Opcode name short = omega arith
bad_title_short fault.Modifiers name short = invalid_short name short
bad_title_short fault.Version name short = invalid_short name short

pub bad_short : (b : Bad) (opcode modifiers : ℕ) → b.reference < 2 ^ 32 → b.unit < 2 ^ 16
    → length (bad_text b opcode modifiers) ≤ 256
bad_short b opcode modifiers long word =
    let title = bad_title b.kind (body_name b.body) in
    let head = head_lines b.reference b.unit opcode modifiers in
    let status = (bad_end b).status in
    let all = both_short (line title (fault_display b.kind) ++ head) (line (codes "  rejected    status 0x") (named_status status)) 170 60
    (both_short (line title (fault_display b.kind)) head 85 85
    (line_short title (fault_display b.kind) 49 35 (bad_title_short b.kind (body_name b.body) (body_name_short b.body)) (fault_short b.kind))
    (head_lines_short b.reference b.unit opcode modifiers long word))
    (line_short (codes "  rejected    status 0x") (named_status status) 23 36 (omega arith) (named_status_short status)) in
    omega (arith, all)
