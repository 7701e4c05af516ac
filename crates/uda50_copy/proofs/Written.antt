-- What Writes change, whether they succeed or fail.
use Rattle.std.proofs.Common.{◌≡◌, ◌⊎◌, ◌≢◌, Bool, true, false, inl, inr, ℕ, suc, ◌+◌, ◌-◌, ◌<◌, ◌≤◌, List, [], ◌∷◌, ◌++◌, length, take, get_or, Option, Some, None, refl, sym, ap, ◌∙◌, arith, subst, length-take}
use Rattle.std.specs.Prelude.{◌||◌, All, replicate, slice_get, slice_set}
use Rattle.std.specs.List.{concat}
use Rattle.std.proofs.lemmas.Bool.{cases_lt, cases_Bool, or_parts}
use Rattle.std.proofs.lemmas.Bool.Decides.{nat_tests}
use Rattle.std.proofs.lemmas.List.{length-set}
use Rattle.std.proofs.lemmas.List.Elements.{All-head, All-tail}
use Rattle.std.proofs.lemmas.Option.{slice_get_within, slice_get_past, slice_get-get_or}
use Rattle.uda_mem.specs.Put.{part, put}
use Rattle.uda_mem.proofs.PutLaws.{length-put, length-part-le, get_or-part, get_or-put_before, get_or-put_at, get_or-put_behind}
use Rattle.uda_image.specs.StoreLaws.{length-first_chunks}
use Rattle.uda_disk.specs.Disk.{Disk, Disks}
use Rattle.uda_disk.specs.Status.{SUCCESS}
use Rattle.uda_disk.specs.Request.{Act, Write, Request, extent_of, in_blocks, blocks_for}
use Rattle.uda_disk.specs.Answer.{Moved}
use Rattle.uda_disk.specs.RequestEffect.{CheckResult, Rejected, Accepted, check_at, check_by, check_result, refusal_on, TransferOutcome, Done, Lost, blocks_moved, disk_after, disks_by}
use Rattle.uda_disk.specs.InOrderRun.{FixedRequest, requests_of, too_long, step_as, step_of, run_in_order_as}
use Rattle.uda_disk.specs.Laws.{blocks_in, blocks_at, size_in, size_at}
use Rattle.uda_disk.proofs.Callers.{joined_and_cut, whole_count}
use Rattle.uda_disk.proofs.Slots.{slice_get-set_same, slice_get-set_other}
use Rattle.uda_disk.proofs.Successes.{All-part, length-joined, successful_write}
use Rattle.uda_disk.specs.declared.refusal.Refusal.{Refusal}
use Rattle.uda50_copy.specs.Map.{is_within}
use Rattle.uda50_copy.specs.Copy.{write_of, AreWritten}
use Rattle.uda50_copy.specs.Reports.{IsBlockOf}
use Rattle.uda50_copy.specs.Changes.{IsTargetWrite, is_moved, is_written, IsPieceOf}

-- ---- items of a part, and of a list with a part written over

pub outside : (from to n : ℕ) → is_within from to n ≡ false → from ≤ to → (n < from) ⊎ (to ≤ n)
outside from to n none ordered = elim (cases_lt n from) [
  | inl low ↦ inl low
  | inr high ↦ elim (cases_lt n to) [ inl below ↦ absurd (grind (arith, nat_tests)) | inr past ↦ inr past ]
]

pub inside : (from to n : ℕ) → is_within from to n ≡ true → (from ≤ n) × (n < to)
inside from to n is = (grind (arith, nat_tests), grind (arith, nat_tests))

pub is_inside : (from to n : ℕ) → from ≤ n → n < to → is_within from to n ≡ true
is_inside from to n low high = grind (arith, nat_tests)

pub is_outside : (from to n : ℕ) → (n < from) ⊎ (to ≤ n) → is_within from to n ≡ false
is_outside from to n (inl low) = grind (arith, nat_tests)
is_outside from to n (inr high) = grind (arith, nat_tests)

item_outside : (xs ys : List (List ℕ)) (at n : ℕ) → (n < at) ⊎ (at + length ys ≤ n)
    → slice_get (put xs at ys) n ≡ slice_get xs n
item_outside xs ys at n out = elim (cases_lt n (length xs)) [
  | inl below ↦
      let there : n < length (put xs at ys) = omega (arith, below, length-put xs at ys) in
      slice_get-get_or (put xs at ys) n [] there
      ∙ ap (λ (block : List ℕ). Some block) (elim out [
        | inl low ↦ get_or-put_before xs at ys n [] below low
        | inr high ↦ get_or-put_behind xs at ys n [] below high
      ])
      ∙ sym (slice_get-get_or xs n [] below)
  | inr past ↦ slice_get_past (put xs at ys) n (omega (arith, past, length-put xs at ys)) ∙ sym (slice_get_past xs n past)
]

item_written : (xs blocks : List (List ℕ)) (lbn count n : ℕ) → lbn ≤ n → n < lbn + count → lbn + count ≤ length xs
    → lbn + count ≤ length blocks → slice_get (put xs lbn (part blocks lbn count)) n ≡ slice_get blocks n
item_written xs blocks lbn count n low high within there =
    let ys = part blocks lbn count in
    let long : length ys ≡ count = length-part-le blocks lbn count there in
    slice_get-get_or (put xs lbn ys) n [] (omega (arith, high, within, length-put xs lbn ys))
    ∙ ap (λ (block : List ℕ). Some block) (get_or-put_at xs lbn ys n [] (omega (arith, high, within)) low (omega (arith, high, long))
    ∙ get_or-part blocks lbn count (n - lbn) [] (omega (arith, low, high))
    ∙ ap (λ (i : ℕ). get_or blocks i []) (omega (arith, low)))
    ∙ sym (slice_get-get_or blocks n [] (omega (arith, high, there)))

-- ---- one Write

accepted_by : (found : Option Refusal) (disk d : Disk) → check_by found disk ≡ Accepted d → disk ≡ d
accepted_by None disk d is = cc
accepted_by (Some refusal) disk d is = absurd (cc)

accepted_at : (act : Act) (slot : Option (Option Disk)) (d : Disk) → check_at act slot ≡ Accepted d → slot ≡ Some (Some d)
accepted_at act None d is = absurd (cc)
accepted_at act (Some None) d is = absurd (cc)
accepted_at act (Some (Some disk)) d is =
    ap (λ (x : Disk). Some (Some x)) (accepted_by (refusal_on (extent_of act) disk.size disk.mode) disk d is)

-- no more blocks are moved than are due
few_moved : (o : TransferOutcome) (blocks : List (List ℕ)) → length (blocks_moved o blocks) ≤ length blocks
few_moved Done blocks = omega arith
few_moved (Lost k left) blocks =
    omega (arith, length-set (take (suc k) blocks) k left, length-take (suc k) blocks)

-- the disks after a Write to unit 1
record Stepped (lbn count : ℕ) (disks left : Disks) : Type 0 where
  pub others : (v : ℕ) → v ≢ 1 → slice_get left v ≡ slice_get disks v
  pub size : size_at left 1 ≡ size_at disks 1
  pub long : length (blocks_at left 1) ≡ length (blocks_at disks 1)
  pub stays : (n : ℕ) → is_within lbn (lbn + count) n ≡ false
      → slice_get (blocks_at left 1) n ≡ slice_get (blocks_at disks 1) n

length-in_blocks : (payload : List ℕ) → length (in_blocks payload) ≡ blocks_for (length payload)
length-in_blocks payload = length-first_chunks (blocks_for (length payload)) (payload ++ replicate 512 0)

by_check : (o : TransferOutcome) (lbn : ℕ) (payload : List ℕ) (disks : Disks) (b : CheckResult)
    → check_result disks (write_of lbn payload) ≡ b
    → Stepped lbn (blocks_for (length payload)) disks (disks_by o (write_of lbn payload) b disks)
by_check o lbn payload disks (Rejected refusal) is = record {
  others = λ v other. refl;
  size = refl;
  long = refl;
  stays = λ n out. refl;
}
by_check o lbn payload disks (Accepted d) is =
    let act : Act = Write lbn payload in
    let after : Disk = disk_after o act d in
    let ys = blocks_moved o (in_blocks payload) in
    let at : slice_get disks 1 ≡ Some (Some d) = accepted_at act (slice_get disks 1) d is in
    let now : slice_get (slice_set disks 1 (Some after)) 1 ≡ Some (Some after) =
    slice_get-set_same disks 1 (Some after) (slice_get_within disks 1 (Some d) at) in
    let few : length ys ≤ blocks_for (length payload) =
    omega (arith, few_moved o (in_blocks payload), length-in_blocks payload) in
    record {
      others = λ v other. slice_get-set_other disks 1 v (Some after) other;
      size = ap size_in now ∙ sym (ap size_in at);
      long = ap (λ (slot : Option (Option Disk)). length (blocks_in slot)) now ∙ length-put d.blocks lbn ys
          ∙ sym (ap (λ (slot : Option (Option Disk)). length (blocks_in slot)) at);
      stays = λ n out. ap (λ (slot : Option (Option Disk)). slice_get (blocks_in slot) n) now
          ∙ item_outside d.blocks ys lbn n (elim (outside lbn (lbn + blocks_for (length payload)) n out (omega arith)) [
            | inl low ↦ inl low
            | inr high ↦ inr (omega (arith, high, few))
          ])
          ∙ sym (ap (λ (slot : Option (Option Disk)). slice_get (blocks_in slot) n) at);
    }

by_length : (o : TransferOutcome) (lbn : ℕ) (payload : List ℕ) (disks : Disks) (long : Bool)
    → too_long (write_of lbn payload) ≡ long
    → Stepped lbn (blocks_for (length payload)) disks (step_as o (write_of lbn payload) disks).1
by_length o lbn payload disks true is = rw is (record {
  others = λ v other. refl;
  size = refl;
  long = refl;
  stays = λ n out. refl;
})
by_length o lbn payload disks false is =
    rw is (by_check o lbn payload disks (check_result disks (write_of lbn payload)) refl)

-- ---- a run of Writes

pub record Ran (requests : List Request) (disks left : Disks) : Type 0 where
  pub source_stays : slice_get left 0 ≡ slice_get disks 0
  pub sizes_stay : (u : ℕ) → size_at left u ≡ size_at disks u
  pub long : length (blocks_at left 1) ≡ length (blocks_at disks 1)
  pub others_stay : (n : ℕ) → is_written requests n ≡ false
      → slice_get (blocks_at left 1) n ≡ slice_get (blocks_at disks 1) n

size_of_unit : (disks left : Disks) (u : ℕ) → ((v : ℕ) → v ≢ 1 → slice_get left v ≡ slice_get disks v)
    → size_at left 1 ≡ size_at disks 1 → size_at left u ≡ size_at disks u
size_of_unit disks left u others same = elim (cases_lt u 1) [
  | inl low ↦ ap size_in (others u (λ is. absurd (omega (arith, is, low))))
  | inr from ↦ elim (cases_lt 1 u) [
    | inl high ↦ ap size_in (others u (λ is. absurd (omega (arith, is, high))))
    | inr to ↦ let one : u ≡ 1 = omega (arith, from, to) in
        ap (size_at left) one ∙ same ∙ sym (ap (size_at disks) one)
  ]
]

stepped : (x : FixedRequest) (disks : Disks) (write : IsTargetWrite x.request)
    → Stepped write.0 (blocks_for (length write.1.0)) disks (step_of x disks).1
stepped x disks write =
    subst (λ (r : Request). Stepped write.0 (blocks_for (length write.1.0)) disks (step_as x.outcome r disks).1)
    (sym write.1.1) (by_length x.outcome write.0 write.1.0 disks (too_long (write_of write.0 write.1.0)) refl)

moved_by : (x : FixedRequest) (write : IsTargetWrite x.request) (n : ℕ)
    → is_moved x.request.act n ≡ is_within write.0 (write.0 + blocks_for (length write.1.0)) n
moved_by x write n = ap (λ (r : Request). is_moved r.act n) write.1.1

pub writes_ran : (xs : List FixedRequest) (disks : Disks) → All IsTargetWrite (requests_of xs)
    → Ran (requests_of xs) disks (run_in_order_as disks xs).1
writes_ran [] disks all = record {
  source_stays = refl;
  sizes_stay = λ u. refl;
  long = refl;
  others_stay = λ n none. refl;
}
writes_ran (x ∷ xs) disks all =
    let write = All-head IsTargetWrite x.request (requests_of xs) all in
    let next = (step_of x disks).1 in
    let one = stepped x disks write in
    let rest = writes_ran xs next (All-tail IsTargetWrite x.request (requests_of xs) all) in
    record {
      source_stays = rest.source_stays ∙ one.others 0 (λ same. absurd (omega (arith, same)));
      sizes_stay = λ u. rest.sizes_stay u ∙ size_of_unit disks next u one.others one.size;
      long = rest.long ∙ one.long;
      others_stay = λ n none.
          let parts = or_parts (is_moved x.request.act n) (is_written (requests_of xs) n) none in
          rest.others_stay n parts.1 ∙ one.stays n (sym (moved_by x write n) ∙ parts.0);
    }

-- ---- Writes that succeed

piece_writes : (blocks : List (List ℕ)) (r : Request) → IsPieceOf blocks r → IsTargetWrite r
piece_writes blocks r piece = (piece.0, (concat (part blocks piece.0 piece.1.0), piece.1.1.1))

pub pieces_write : (blocks : List (List ℕ)) (requests : List Request) → All (IsPieceOf blocks) requests
    → All IsTargetWrite requests
pieces_write blocks requests all = λ k d below. piece_writes blocks _ (all k d below)

-- a piece has bytes for its blocks
pub piece_moves : (blocks : List (List ℕ)) (lbn count n : ℕ) → All (λ block. length block ≡ 512) blocks
    → lbn + count ≤ length blocks
    → is_moved (write_of lbn (concat (part blocks lbn count))).act n ≡ is_within lbn (lbn + count) n
piece_moves blocks lbn count n whole within =
    ap (λ (m : ℕ). is_within lbn (lbn + m) n)
    (ap blocks_for (length-joined blocks lbn count whole within) ∙ whole_count count)

-- the block that a piece was written to
piece_holds : (o : TransferOutcome) (blocks : List (List ℕ)) (lbn count : ℕ) (disks : Disks) (moved n : ℕ)
    → All (λ block. length block ≡ 512) blocks → lbn + count ≤ length blocks
    → (step_as o (write_of lbn (concat (part blocks lbn count))) disks).0 ≡ Moved SUCCESS moved
    → size_at disks 1 ≡ length (blocks_at disks 1) → is_within lbn (lbn + count) n ≡ true
    → slice_get (blocks_at (step_as o (write_of lbn (concat (part blocks lbn count))) disks).1 1) n ≡ slice_get blocks n
piece_holds o blocks lbn count disks moved n whole within told size here =
    let piece = part blocks lbn count in
    let wrote = successful_write o 1 lbn (concat piece) disks moved told in
    let long : blocks_for (length (concat piece)) ≡ count =
    ap blocks_for (length-joined blocks lbn count whole within) ∙ whole_count count in
    let place = inside lbn (lbn + count) n here in
    ap (λ (b : List (List ℕ)). slice_get b n)
    (wrote.written ∙ ap (put (blocks_at disks 1) lbn) (joined_and_cut piece (All-part blocks lbn count whole)))
    ∙ item_written (blocks_at disks 1) blocks lbn count n place.0 place.1 (omega (arith, wrote.within, long, size)) within

or_first : (x y : Bool) → (x || y) ≡ true → y ≡ false → x ≡ true
or_first true y is last = refl
or_first false y is last = absurd (cc (is, last))

pub writes_hold : (xs : List FixedRequest) (disks : Disks) (blocks : List (List ℕ)) (n : ℕ)
    → All (λ block. length block ≡ 512) blocks → All (IsPieceOf blocks) (requests_of xs)
    → AreWritten (requests_of xs) (run_in_order_as disks xs).0 → size_at disks 1 ≡ length (blocks_at disks 1)
    → is_written (requests_of xs) n ≡ true → IsBlockOf n blocks (blocks_at (run_in_order_as disks xs).1 1)
writes_hold [] disks blocks n whole all told size is = absurd (cc)
writes_hold (x ∷ xs) disks blocks n whole all told size is =
    let piece = All-head (IsPieceOf blocks) x.request (requests_of xs) all in
    let lbn = piece.0 in let count = piece.1.0 in let within = piece.1.1.0 in
    let pieces = All-tail (IsPieceOf blocks) x.request (requests_of xs) all in
    let payload = concat (part blocks lbn count) in
    let next = (step_of x disks).1 in
    let one = stepped x disks (piece_writes blocks x.request piece) in
    let size_next : size_at next 1 ≡ length (blocks_at next 1) = one.size ∙ size ∙ sym one.long in
    let later : AreWritten (requests_of xs) (run_in_order_as next xs).0 = λ k l bytes asked. told (suc k) l bytes asked in
    elim (cases_Bool (is_written (requests_of xs) n)) [
      | inl again ↦ writes_hold xs next blocks n whole pieces later size_next again
      | inr last ↦
          let head = told 0 lbn payload (ap Some piece.1.1.1) in
          let now : (step_of x disks).0 ≡ head.0 = cc (head.1.0) in
          let here : is_within lbn (lbn + count) n ≡ true =
          sym (piece_moves blocks lbn count n whole within) ∙ sym (ap (λ (r : Request). is_moved r.act n) piece.1.1.1)
          ∙ or_first (is_moved x.request.act n) (is_written (requests_of xs) n) is last in
          let holds = piece_holds x.outcome blocks lbn count disks head.1.1.0 n whole within
          (ap (λ (q : Request). (step_as x.outcome q disks).0) (sym piece.1.1.1) ∙ now ∙ head.1.1.1) size here in (
            omega (arith, (inside lbn (lbn + count) n here).1, within),
            (writes_ran xs next (pieces_write blocks (requests_of xs) pieces)).others_stay n last
                ∙ ap (λ (q : Request). slice_get (blocks_at (step_as x.outcome q disks).1 1) n) piece.1.1.1 ∙ holds,
          )
    ]
