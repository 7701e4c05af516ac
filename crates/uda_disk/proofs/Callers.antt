-- The laws for callers.
use Rattle.std.proofs.Common.{◌≡◌, ℕ, ◌+◌, ◌*◌, ◌%◌, Bool, true, false, List, [], ◌∷◌, ◌++◌, length, take, drop, replicate, Option, None, refl, sym, ap, ap₂, ◌∙◌, arith, length-append}
use Rattle.std.specs.Prelude.{◌-◌, All, nat_eq, nat_lt, nat_le, ◌&&◌}
use Rattle.std.specs.List.{concat}
use Rattle.std.specs.Option.{option_map_or}
use Rattle.std.specs.Simd.{first_chunks}
use Rattle.std.proofs.lemmas.Bool.{eq-eqb, le-ltb}
use Rattle.std.proofs.lemmas.Bool.Decides.{nat_tests}
use Rattle.std.proofs.lemmas.Option.{slice_get_read}
use Rattle.std.proofs.lemmas.List.{get_or_push, take_all, take-append-le, drop-append-le, drop_all, append_assoc}
use Rattle.std.proofs.lemmas.List.Elements.{All-head, All-tail}
use Rattle.uda_mem.specs.Put.{part, put}
use Rattle.uda_mem.proofs.PutLaws.{put-nil, put-whole}
use Rattle.uda_disk.specs.declared.refusal.Refusal.{Refusal}
use Rattle.uda_disk.specs.Status.{SUCCESS}
use Rattle.uda_disk.specs.Disk.{Disk, Disks}
use Rattle.uda_disk.specs.Request.{Write, Erase, Extent, extent_of, lbn_of, blocks_for}
use Rattle.uda_disk.specs.Answer.{Answer, Data}
use Rattle.uda_disk.specs.RequestEffect.{CheckResult, Accepted, check_result, check_at, check_by, first_failed_check, refusal_on, Done, serve_as, serve_by}
use Rattle.uda_disk.specs.InOrderRun.{limit_of, too_long, step, run_in_order}
use Rattle.uda_disk.specs.Laws.{IsAllowed, AllowedIsDone, WholeCount, JoinedAndCut, UnwrittenStays, WholeRead, WholeWrite, UnitRequestIsDone, FirstThenOthers, LastHasLastPlace}

unprotected : (writes protected : Bool) → (writes ≡ true → protected ≡ false) → writes && protected ≡ false
unprotected true protected h = h refl
unprotected false protected h = refl

nothing_bars : (e : Extent) (disk : Disk) → IsAllowed e disk → first_failed_check e disk.size disk.mode ≡ None
nothing_bars e disk a =
    let even : nat_eq (e.bytes % 2) 0 ≡ true = eq-eqb (e.bytes % 2) 0 a.even in
    let begins : nat_le disk.size e.lbn ≡ false = (let low = a.begins in grind (arith, nat_tests)) in
    let ends : nat_lt disk.size (e.lbn + blocks_for e.bytes) ≡ false =
    le-ltb disk.size (e.lbn + blocks_for e.bytes) a.ends in
    rw (
      a.online,
      even,
      begins,
      ends,
      unprotected e.writes disk.mode.hard a.not_hard,
      unprotected e.writes disk.mode.soft a.not_soft,
    ) refl

pub allowed_is_done : AllowedIsDone
allowed_is_done r e disk disks is a short here =
    let none : refusal_on (extent_of r.act) disk.size disk.mode ≡ None =
    ap (λ (x : Option Extent). refusal_on x disk.size disk.mode) is ∙ nothing_bars e disk a in
    let free : check_result disks r ≡ Accepted disk = ap (check_at r.act) here
    ∙ ap (λ (f : Option Refusal). check_by f disk) none in
    let served : step r disks ≡ serve_as Done r disks = rw short refl in
    served ∙ ap (λ (b : CheckResult). serve_by Done r b disks) free

pub whole_count : WholeCount
whole_count n = omega arith

pub length-concat : (blocks : List (List ℕ)) → All (λ block. length block ≡ 512) blocks → length (concat blocks)
    ≡ 512 * length blocks
length-concat [] h = omega arith
length-concat (b ∷ bs) h =
    let rest = length-concat bs (All-tail (λ block. length block ≡ 512) b bs h) in
    let head : length b ≡ 512 = All-head (λ block. length block ≡ 512) b bs h in
    simp length-append (omega arith)

-- blocks followed by anything, divided again
cut : (blocks : List (List ℕ)) (behind : List ℕ) → All (λ block. length block ≡ 512) blocks
    → first_chunks 512 (length blocks) (concat blocks ++ behind) ≡ blocks
cut [] behind h = refl
cut (b ∷ bs) behind h =
    let head : length b ≡ 512 = All-head (λ block. length block ≡ 512) b bs h in
    let joined : (b ++ concat bs) ++ behind ≡ b ++ (concat bs ++ behind) =
    append_assoc b (concat bs) behind in
    let first : take 512 ((b ++ concat bs) ++ behind) ≡ b = ap (take 512) joined
    ∙ take-append-le 512 b (concat bs ++ behind) (omega (arith, head))
    ∙ take_all 512 b (omega (arith, head)) in
    let later : drop 512 ((b ++ concat bs) ++ behind) ≡ concat bs ++ behind =
    ap (drop 512) joined ∙ drop-append-le 512 b (concat bs ++ behind) (omega (arith, head))
    ∙ ap (λ (l : List ℕ). l ++ (concat bs ++ behind)) (drop_all 512 b (omega (arith, head))) in
    ap₂ (λ (x : List ℕ) (xs : List (List ℕ)). x ∷ xs) first
    (ap (first_chunks 512 (length bs)) later ∙ cut bs behind
    (All-tail (λ block. length block ≡ 512) b bs h))

pub joined_and_cut : JoinedAndCut
joined_and_cut blocks h =
    let count : blocks_for (length (concat blocks)) ≡ length blocks = ap blocks_for (length-concat blocks h)
    ∙ whole_count (length blocks) in
    ap (λ (n : ℕ). first_chunks 512 n (concat blocks ++ replicate 512 0)) count
    ∙ cut blocks (replicate 512 0) h

pub unwritten_stays : UnwrittenStays
unwritten_stays o (Write lbn payload) disk h = absurd (cc)
unwritten_stays o (Erase lbn bytes) disk h = absurd (cc)
unwritten_stays o act disk h = put-nil disk.blocks (lbn_of act)

part_whole : (blocks : List (List ℕ)) (n : ℕ) → length blocks ≡ n → part blocks 0 n ≡ blocks
unfolding part
part_whole blocks n size = take_all n blocks (omega (arith, size))

pub whole_read : WholeRead
whole_read disk image =
    let all : part disk.blocks 0 (blocks_for (512 * disk.size)) ≡ disk.blocks = ap (part disk.blocks 0)
    (whole_count disk.size) ∙ part_whole disk.blocks disk.size image.counted in
    let bytes : take (512 * disk.size) (concat disk.blocks) ≡ concat disk.blocks =
    take_all _ _ (omega (arith, length-concat disk.blocks image.whole, image.counted)) in
    ap (λ (b : List (List ℕ)). Data SUCCESS (take (512 * disk.size) (take (512 * disk.size) (concat b)))) all
    ∙ ap (λ (l : List ℕ). Data SUCCESS (take (512 * disk.size) l)) bytes ∙ ap (Data SUCCESS) bytes

pub whole_write : WholeWrite
whole_write disk blocks own image = ap (put disk.blocks 0) (joined_and_cut blocks image.whole)
    ∙ put-whole disk.blocks blocks (image.counted ∙ sym own.counted)

pub unit_request_is_done : UnitRequestIsDone
unit_request_is_done r disk disks none here =
    let short : too_long r ≡ false =
    ap (λ (x : Option Extent). option_map_or (λ e. nat_lt (limit_of r.act) e.bytes) x false) none in
    let free : check_result disks r ≡ Accepted disk = ap (check_at r.act) here
    ∙ ap (λ (x : Option Extent). check_by (refusal_on x disk.size disk.mode) disk) none in
    let served : step r disks ≡ serve_as Done r disks = rw short refl in
    served ∙ ap (λ (b : CheckResult). serve_by Done r b disks) free

pub first_then_others : FirstThenOthers
first_then_others r rest disks next answer now =
    ap (λ (x : Answer × Disks). (x.0 ∷ (run_in_order x.1 rest).0, (run_in_order x.1 rest).1)) now

pub last_has_last_place : LastHasLastPlace
last_has_last_place answers front last is =
    let long = length-append front (last ∷ []) in
    rw is (slice_get_read (front ++ last ∷ []) (length front + 1) (length (front ++ last ∷ []) - 1) last
    (sym long) (omega (arith, long))
    (sym (get_or_push front last last (length (front ++ last ∷ []) - 1) (omega (arith, long)))))
