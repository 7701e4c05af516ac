-- Records after the blocks of an image. SIMH's sim_disk.c: the footer of a container. Microsoft's Virtual Hard
-- Disk Image Format Specification: the footer of a hard disk.
use Rattle.std.specs.Prelude.{ℕ, zero, suc, ◌/◌, ◌%◌, ◌==◌, List, ◌&&◌, Option, Some, None, if◌then◌else◌, codes, nat_eq, nat_lt, take_while}
use Rattle.std.specs.List.{starts_with}
use Rattle.std.specs.Int.RustNames.{bit_xor}
use Rattle.byteorder.specs.Endian.{big_from}
use Rattle.uda50_show.specs.declared.container.ContainerRecord.{ContainerRecord}
use Rattle.uda50_show.specs.declared.container.ContainerRecord.TheVariants as record_of
use Rattle.uda50_show.specs.declared.container.SimhRecord.{SimhRecord}
use Rattle.uda50_show.specs.Block.{byte_at_offset, block_bytes, checksum_of}

-- the long word of four bytes at an offset, high byte first
abbrev pub big_long : ℕ → List ℕ → ℕ
big_long offset block = big_from offset 4 block

-- ---- CRC-32, as of IEEE 802.3: the reflected polynomial is 0xEDB88320

unfoldable pub crc_bit : ℕ → ℕ
crc_bit sum = if sum % 2 == 1 then bit_xor (sum / 2) 0xEDB88320 else sum / 2

unfoldable pub crc_byte : ℕ → ℕ
crc_byte sum = crc_bit (crc_bit (crc_bit (crc_bit (crc_bit (crc_bit (crc_bit (crc_bit sum)))))))

-- the sum after the first bytes
unfoldable pub crc_sum : ℕ → List ℕ → ℕ
crc_sum zero block = 0xFFFFFFFF
crc_sum (suc count) block = crc_byte (bit_xor (crc_sum count block) (byte_at_offset count block))

-- the CRC-32 of the first 508 bytes
abbrev pub crc : List ℕ → ℕ
crc block = bit_xor (crc_sum 508 block) 0xFFFFFFFF

-- ---- records

-- a text up to its first zero byte
abbrev pub before_zero : List ℕ → List ℕ
before_zero text = take_while (λ byte. nat_lt 0 byte) text

-- the facts in SIMH's record: texts of 64 and 16 bytes, numbers with the high byte first, and at the end the
-- checksum of the bytes before it
abbrev pub simh_record : List ℕ → SimhRecord
simh_record block = record {
  simulator = block_bytes 4 64 block;
  drive = block_bytes 68 16 block;
  sector_size = big_long 84 block;
  sectors = big_long 88 block;
  checksum = checksum_of (crc block == big_long 508 block);
}

-- SIMH's record begins with a text, and so does the footer of a virtual hard disk, which has type 2 if it is fixed
abbrev pub container_record : List ℕ → Option ContainerRecord
container_record block =
    if starts_with nat_eq block (codes "simh") then Some (record_of.Simh (simh_record block))
    else if starts_with nat_eq block (codes "conectix") && (big_long 60 block == 2)
    then Some record_of.FixedVhd else None
