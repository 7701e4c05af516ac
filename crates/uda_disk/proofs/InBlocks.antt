-- Block k of bytes that are cut into blocks.
use Rattle.std.proofs.Common.{◌≡◌, ℕ, ◌+◌, ◌*◌, ◌<◌, ◌≤◌, List, [], ◌++◌, length, get_or, take, drop, replicate, sym, ap, ◌∙◌, arith, length-drop}
use Rattle.std.specs.Simd.{first_chunks}
use Rattle.std.proofs.lemmas.List.{take_all, drop-append-le}
use Rattle.std.proofs.lemmas.Option.{get_or_from_slice_get}
use Rattle.uda_mem.specs.Put.{part}
use Rattle.uda_image.proofs.Chunk.{slice_get-first_chunks}
use Rattle.uda_disk.specs.Request.{blocks_for, in_blocks, first_block}

pub get_or-first_chunks : (n : ℕ) (bytes : List ℕ) (k : ℕ) → k < n → get_or (first_chunks 512 n bytes) k []
    ≡ part bytes (512 * k) 512
unfolding part
get_or-first_chunks n bytes k h = get_or_from_slice_get (first_chunks 512 n bytes) k
    (take 512 (drop (512 * k) bytes)) [] (slice_get-first_chunks 512 n bytes k h)

-- block k of these bytes, of which at most m follow the blocks before it
pub get_or-in_blocks : (k m : ℕ) (bytes : List ℕ) → k < blocks_for (length bytes) → 512 * k ≤ length bytes
    → length bytes ≤ 512 * k + m → get_or (in_blocks bytes) k [] ≡ first_block (part bytes (512 * k) m)
unfolding part
get_or-in_blocks k m bytes inside begun ended =
    let zeros : List ℕ = replicate 512 0 in
    let behind : drop (512 * k) (bytes ++ zeros) ≡ drop (512 * k) bytes ++ zeros =
    drop-append-le (512 * k) bytes zeros begun in
    let all : take m (drop (512 * k) bytes) ≡ drop (512 * k) bytes = take_all m (drop (512 * k) bytes)
    (omega (arith, length-drop (512 * k) bytes)) in
    get_or-first_chunks (blocks_for (length bytes)) (bytes ++ zeros) k inside
    ∙ ap (λ (b : List ℕ). take 512 b) behind ∙ ap first_block (sym all)
