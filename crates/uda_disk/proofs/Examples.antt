-- The worked examples, computed from the definitions.
use Rattle.std.proofs.Common.{◌≡◌, ℕ, Bool, true, false, List, [], ◌∷◌, ◌++◌, replicate, map, Some, None, refl}
use Rattle.uda_mem.specs.Put.{part, put}
use Rattle.uda_disk.specs.Disk.{Disks}
use Rattle.uda_disk.specs.RequestEffect.{Done, Lost}
use Rattle.uda_disk.specs.Request as ask
use Rattle.uda_disk.specs.Request.{Act, Request}
use Rattle.uda_disk.specs.Answer.{Answer, TooLong, Plain, Online, Status, Moved, Data}
use Rattle.uda_disk.specs.InOrderRun.{run_in_order, run_in_order_as}
use Rattle.uda_disk.specs.Order.{lead}

-- a request of this unit
abbrev on : ℕ → Act → Request
on unit act = record { unit = unit; act = act }

-- unit 0 has these blocks, and no other unit a drive
abbrev alone : Bool → List (List ℕ) → ℕ → Disks
alone hard blocks size =
    Some (record {
      blocks = blocks;
      size = size;
      mode = record { online = false; hard = hard; soft = false };
    })
    ∷ None ∷ None ∷ None ∷ []

abbrev of : ℕ → List ℕ
of byte = replicate 512 byte

abbrev zeros : ℕ → List (List ℕ)
zeros n = replicate n (of 0)

abbrev eight : Disks
eight = alone false (zeros 8) 8

-- each block of 512 times its number
abbrev numbered : List (List ℕ)
numbered = of 0 ∷ of 1 ∷ of 2 ∷ of 3 ∷ of 4 ∷ of 5 ∷ of 6 ∷ of 7 ∷ of 8 ∷ of 9 ∷ []

abbrev answers : Disks → List Request → List Answer
answers disks requests = (run_in_order disks requests).0

empty_run : run_in_order eight [] ≡ ([], eight)
empty_run = refl

read_while_available : answers eight (on 0 (ask.Read 0 512) ∷ []) ≡ Data 0x0004 [] ∷ []
read_while_available = refl

read_last_block : answers (alone false (zeros 7 ++ of 0x37 ∷ []) 8)
    (on 0 (ask.Online false) ∷ on 0 (ask.Read 7 512) ∷ []) ≡ Online 0 0 8 ∷ Data 0 (of 0x37) ∷ []
unfolding put part
read_last_block = refl

first_block_past_end : answers eight (on 0 (ask.Online false) ∷ on 0 (ask.Read 8 0) ∷ [])
    ≡ Online 0 0 8 ∷ Data 0x1C01 [] ∷ []
unfolding put
first_block_past_end = refl

range_past_end : answers eight (on 0 (ask.Online false) ∷ on 0 (ask.Read 7 1024) ∷ [])
    ≡ Online 0 0 8 ∷ Data 0x0C01 [] ∷ []
unfolding put
range_past_end = refl

software_protection : answers eight (on 0 (ask.Online true) ∷ on 0 (ask.Write 0 (of 0x5A)) ∷ on 0
    (ask.Read 0 512) ∷ []) ≡ Online 0 0x1000 8 ∷ Moved 0x1006 0 ∷ Data 0 (of 0) ∷ []
unfolding put part
software_protection = refl

hardware_protection : answers (alone true (zeros 8) 8) (on 0 (ask.Online true) ∷ on 0 (ask.Erase 0 512) ∷ [])
    ≡ Online 0 0x3000 8 ∷ Moved 0x2006 0 ∷ []
unfolding put
hardware_protection = refl

more_than_eight : answers (alone false (zeros 10) 10)
    (on 0 (ask.Online false) ∷ (map (λ k. on 0 (ask.Write k (of k)))
    (0 ∷ 1 ∷ 2 ∷ 3 ∷ 4 ∷ 5 ∷ 6 ∷ 7 ∷ 8 ∷ 9 ∷ [])
    ++ map (λ k. on 0 (ask.Read k 512)) (0 ∷ 1 ∷ 2 ∷ 3 ∷ 4 ∷ 5 ∷ 6 ∷ 7 ∷ 8 ∷ 9 ∷ [])))
    ≡ Online 0 0 10 ∷ (replicate 10 (Moved 0 512) ++ map (λ block. Data 0 block) numbered)
unfolding put part
more_than_eight = refl

overlapping_writes : run_in_order eight (on 0 (ask.Online false) ∷ on 0 (ask.Write 3 (replicate 1536 0x11)) ∷ on 0
    (ask.Read 5 512) ∷ on 0 (ask.Write 5 (of 0x22)) ∷ on 0 (ask.Read 5 512) ∷ [])
    ≡ (
      Online 0 0 8 ∷ Moved 0 1536 ∷ Data 0 (of 0x11) ∷ Moved 0 512 ∷ Data 0 (of 0x22) ∷ [],
      Some (record {
        blocks = zeros 3 ++ (of 0x11 ∷ of 0x11 ∷ of 0x22 ∷ zeros 2);
        size = 8;
        mode = record { online = true; hard = false; soft = false };
      }) ∷ None ∷ None ∷ None ∷ [],
    )
unfolding put part
overlapping_writes = refl

thirty_three_blocks : answers (alone false (zeros 40) 40)
    (on 0 (ask.Online false) ∷ on 0 (ask.Read 0 16896) ∷ on 0 (ask.Read 0 16384) ∷ [])
    ≡ Online 0 0 40 ∷ TooLong ∷ Data 0 (replicate 16384 0) ∷ []
unfolding put part
thirty_three_blocks = refl

reads_out_of_order : answers (alone false numbered 10)
    (on 0 (ask.Online false) ∷ map (λ k. on 0 (ask.Read k 512)) (9 ∷ 0 ∷ 5 ∷ 1 ∷ []))
    ≡ Online 0 0 10 ∷ Data 0 (of 9) ∷ Data 0 (of 0) ∷ Data 0 (of 5) ∷ Data 0 (of 1) ∷ []
unfolding put part
reads_out_of_order = refl

unit_states : answers eight (on 4 ask.Status ∷ on 1 ask.Status ∷ on 0 ask.Available ∷ on 0 ask.Available
    ∷ on 0 (ask.Online false) ∷ on 0 (ask.Online true) ∷ on 0 ask.Status ∷ [])
    ≡ Status 0x0003 0 ∷ Status 0x0023 0 ∷ Plain 0 ∷ Plain 0 ∷ Online 0 0 8 ∷ Online 0x0100 0 8 ∷ Status 0 0
    ∷ []
unfolding put
unit_states = refl

empty_write_protected : answers eight (on 0 (ask.Online true) ∷ on 0 (ask.Write 0 []) ∷ [])
    ≡ Online 0 0x1000 8 ∷ Moved 0x1006 0 ∷ []
unfolding put
empty_write_protected = refl

no_blocks : answers (alone false [] 0) (on 0 (ask.Online false) ∷ on 0 (ask.Read 0 0) ∷ [])
    ≡ Online 0 0 0 ∷ Data 0x1C01 [] ∷ []
unfolding put
no_blocks = refl

part_block : answers eight (on 0 (ask.Online false) ∷ on 0 (ask.Write 2 (replicate 514 0x66)) ∷ on 0
    (ask.Read 2 1024) ∷ on 0 (ask.Read 3 4) ∷ [])
    ≡ Online 0 0 8 ∷ Moved 0 514 ∷ Data 0 (replicate 514 0x66 ++ replicate 510 0) ∷ Data 0
    (0x66 ∷ 0x66 ∷ 0 ∷ 0 ∷ []) ∷ []
unfolding put part
part_block = refl

-- the previous content of a partial block is gone
part_block_again : answers eight (on 0 (ask.Online false) ∷ on 0 (ask.Write 2 (of 0x66)) ∷ on 0
    (ask.Write 2 (0x77 ∷ 0x77 ∷ [])) ∷ on 0 (ask.Read 2 4) ∷ on 0 (ask.Erase 2 2) ∷ on 0 (ask.Read 2 4) ∷ [])
    ≡ Online 0 0 8 ∷ Moved 0 512 ∷ Moved 0 2 ∷ Data 0 (0x77 ∷ 0x77 ∷ 0 ∷ 0 ∷ []) ∷ Moved 0 2 ∷ Data 0
    (replicate 4 0) ∷ []
unfolding put part
part_block_again = refl

odd_counts_and_limits : answers eight (on 0 (ask.Online false) ∷ on 0 (ask.Read 7 514) ∷ on 0
    (ask.Read 7 2) ∷ on 0 (ask.Read 8 2) ∷ on 0 (ask.Read 0 3) ∷ on 0 (ask.Read 0 16386) ∷ on 0
    (ask.Access 0 4294967294) ∷ on 0 (ask.Access 0 4294967296) ∷ [])
    ≡ Online 0 0 8 ∷ Data 0x0C01 [] ∷ Data 0 (0 ∷ 0 ∷ []) ∷ Data 0x1C01 [] ∷ Data 0x0049 [] ∷ TooLong
    ∷ Moved 0x0C01 0 ∷ TooLong ∷ []
unfolding put part
odd_counts_and_limits = refl

-- a Write of three blocks fails at its second, which is half written then; the block before it is written,
-- and the one after it is not
abbrev half : List ℕ
half = replicate 256 0x44 ++ replicate 256 0

failing_store : run_in_order_as eight (
    record { request = on 0 (ask.Online false); outcome = Done }
    ∷ record { request = on 0 (ask.Write 0 (replicate 1536 0x44)); outcome = Lost 1 half }
    ∷ record { request = on 0 (ask.Read 0 512); outcome = Done } ∷ [])
    ≡ (
      Online 0 0 8 ∷ Moved 0x000B 512 ∷ Data 0 (of 0x44) ∷ [],
      Some (record {
        blocks = of 0x44 ∷ half ∷ zeros 6;
        size = 8;
        mode = record { online = true; hard = false; soft = false };
      }) ∷ None ∷ None ∷ None ∷ [],
    )
unfolding put part
failing_store = refl

-- the first fifteen of more are outstanding together; a Read waits for a Write that it conflicts with, and
-- a request that is too long is skipped
lead_of_seventeen : lead (map (λ k. on 0 (ask.Read k 512))
    (16 ∷ 15 ∷ 14 ∷ 13 ∷ 12 ∷ 11 ∷ 10 ∷ 9 ∷ 8 ∷ 7 ∷ 6 ∷ 5 ∷ 4 ∷ 3 ∷ 2 ∷ 1 ∷ 0 ∷ [])) ≡ 15
lead_of_seventeen = refl

lead_to_a_clash : lead (on 0 (ask.Online false) ∷ on 0 (ask.Read 0 16896) ∷ on 0
    (ask.Write 3 (replicate 514 0)) ∷ on 0 (ask.Read 4 512) ∷ on 0 (ask.Read 0 512) ∷ []) ≡ 2
lead_to_a_clash = refl

-- a partial block belongs to the range
lead_to_a_part_block : lead (on 0 (ask.Write 3 (replicate 514 0)) ∷ on 0 (ask.Read 4 2) ∷ []) ≡ 1
lead_to_a_part_block = refl
