-- Disk labels of Unix systems: the headers sys/disklabel.h of 4.3BSD and 2.11BSD, and Ultrix's partition
-- table.
use Rattle.std.specs.Prelude.{ℕ, ◌+◌, ◌*◌, ◌==◌, List, Bool, ◌&&◌, ◌||◌, nat_le, codes}
use Rattle.uda50_show.specs.declared.checksum.Checksum.{Checksum}
use Rattle.uda50_show.specs.declared.disk_label.DiskLabel.{DiskLabel}
use Rattle.uda50_show.specs.declared.disk_label.DiskLabel.TheVariants as label
use Rattle.uda50_show.specs.Block.{word_at_offset, long_at_offset, word_parity, checksum_of}

-- a VAX's label begins at byte 64 of block 0, and has its magic number again 132 bytes later
abbrev pub has_bsd_label : List ℕ → Bool
has_bsd_label block = (long_at_offset 64 block == 0x82564557) && (long_at_offset 196 block == 0x82564557)

-- the number of its partitions; each has 16 bytes, from byte 212, and the block has room for 18
abbrev pub partitions_of : List ℕ → ℕ
partitions_of block = word_at_offset 202 block

-- the exclusive or of all its words, including the checksum, is 0
abbrev pub bsd_checksum : List ℕ → Checksum
bsd_checksum block =
    checksum_of (nat_le (partitions_of block) 18
    && (word_parity 64 (74 + 8 * partitions_of block) block == 0))

-- a PDP-11's label begins block 1 with the magic number, its halves exchanged, and has it a second time
abbrev pub has_bsd211_label : List ℕ → Bool
has_bsd211_label block =
    (long_at_offset 0 block == 0x45578256)
    && ((long_at_offset 108 block == 0x45578256) || (long_at_offset 132 block == 0x45578256))

-- Ultrix has its partition table in the last 72 bytes of block 31, with 1 for a valid one
abbrev pub has_ultrix_table : List ℕ → Bool
has_ultrix_table block = (long_at_offset 440 block == 0x00032957) && (long_at_offset 444 block == 1)

-- the name of a kind
abbrev pub label_kind : DiskLabel → List ℕ
label_kind (label.Bsd checksum) = codes "BSD disk label"
label_kind label.Bsd211 = codes "2.11BSD disk label"
label_kind label.Ultrix = codes "Ultrix partition table"
