-- What the calls on a file did, if it has been honest.
use Rattle.std.proofs.Common.{◌≡◌, ◌+◌, ◌*◌, ◌<◌, ◌≤◌, ◌∷◌, ◌++◌, ◌∙◌, ℕ, Bool, List, Option, Some, None, true, false, length, take, drop, refl, sym, ap, subst, arith, length-append, length-take, length-drop, inl, inr}
use Rattle.std.specs.Prelude.{slice_get, slice_set, IfSome, if◌then◌else◌}
use Rattle.std.specs.List.{concat}
use Rattle.std.proofs.lemmas.Bool.{and_parts, cases_Bool}
use Rattle.std.proofs.lemmas.List.{take_all, set-get_or}
use Rattle.std.proofs.lemmas.Option.{get_or_from_slice_get}
use Rattle.std.proofs.lemmas.Slice.Eq.{bytes_eq-Decides}
use Rattle.uda_mem.specs.Put.{part, put}
use Rattle.uda_mem.proofs.PutLaws.{length-part-le, put-part}
use Rattle.uda_image.specs.FileCall.{FileCall, read, written, asked, declined, failed, failed_write}
use Rattle.uda_image.specs.declared.trace.FileTrace.{FileTrace}
use Rattle.uda_image.specs.Store.{KeepsAttributes, ReadsBlock, WritesBlock, FailsToRead, FailsToWrite, is_sound}
use Rattle.uda_image.specs.AtOnce.{TriesToRead, TriesToWrite, ReadsBlocks, ReadsNone, WritesBlocks}
use Rattle.uda_image.specs.File.{block_left, ReadsAt, WritesAt, IsDoneAt, ChangesAtMost}
use Rattle.uda_image.specs.Image.{block_count_of, block_of, blocks_of, with_block, OpenImage, file_block_count, holding, file_state, IsAsKnown, HoldsKnownBytes}
use Rattle.uda_image.specs.FileLaws.{count-holding, length-fitted, length-holding}
use Rattle.uda_image.proofs.ImageLaws.{slice_get-blocks_of, blocks_of-with_block, length-block_of}
use Rattle.uda_image.proofs.AtOnceLaws.{concat-part_blocks, blocks_of-put}

-- the file after one call more
abbrev pub after : FileCall → OpenImage → OpenImage
after call image = record image { calls = call ∷ image.calls }

-- an image with this file and trace, after a call
abbrev pub called : OpenImage → Option (List ℕ) → Bool → Bool → FileTrace → OpenImage
called old content never_fails unsynced trace = record old {
  content = content;
  never_fails = never_fails;
  unsynced = unsynced;
  held = trace.held;
  blocks_left = trace.blocks_left;
  known = trace.known;
  calls = trace.calls;
}

-- a read after which the file is honest found it honest, and returned its bytes
module _ (image : OpenImage) (n : ℕ) (to : List ℕ) (h : (file_state (after (read n to) image)).honest ≡ true) where
  was_honest : (holding image).honest ≡ true
  was_honest = (and_parts _ _ h).0

  agrees : part (holding image).bytes (512 * n) (length to) ≡ to
  agrees = (bytes_eq-Decides (part (holding image).bytes (512 * n) (length to)) to).0 (and_parts _ _ h).1

  stays : file_state (after (read n to) image) ≡ file_state image
  stays = ap (λ (b : Bool). record (file_state image) { honest = b }) (h ∙ sym was_honest)

  block_is : n < file_block_count image → length to ≡ 512 → slice_get (blocks_of (holding image).bytes) n ≡ Some to
  unfolding block_of part
  block_is on_unit long =
      slice_get-blocks_of (holding image).bytes n (rw (count-holding image) on_unit)
      ∙ ap Some (ap (λ (size : ℕ). part (holding image).bytes (512 * n) size) (sym long) ∙ agrees)

  blocks_are : (count : ℕ) → n + count ≤ file_block_count image → length to ≡ 512 * count
      → to ≡ concat (part (blocks_of (holding image).bytes) n count)
  blocks_are count on_unit long =
      sym (concat-part_blocks (holding image).bytes n count (rw (count-holding image) on_unit)
      ∙ ap (λ (size : ℕ). part (holding image).bytes (512 * n) size) (sym long) ∙ agrees)

-- no call changes an attribute, and none makes a file honest
pub read_keeps : (old new : OpenImage) (n : ℕ) (bytes : List ℕ) → new ≡ after (read n bytes) old
    → KeepsAttributes (file_state old) (file_state new)
read_keeps old new n bytes is = rw is (record {
  size_stays = refl;
  faithful_stays = refl;
  honest_before = λ h. (and_parts _ _ h).0;
  never_fails_stays = refl;
  lent_stays = refl;
})

pub failed_keeps : (old new : OpenImage) → new ≡ after failed old → KeepsAttributes (file_state old) (file_state new)
failed_keeps old new is = rw is (record {
  size_stays = refl;
  faithful_stays = refl;
  honest_before = λ h. h;
  never_fails_stays = refl;
  lent_stays = refl;
})

pub written_keeps : (old new : OpenImage) (w u : Bool) (content : Option (List ℕ)) (n : ℕ) (bytes : List ℕ)
    → new ≡ record old { written = w; content = content; unsynced = u; calls = written n bytes ∷ old.calls }
    → KeepsAttributes (file_state old) (file_state new)
written_keeps old new w u content n bytes is = rw is (record {
  size_stays = refl;
  faithful_stays = refl;
  honest_before = λ h. h;
  never_fails_stays = refl;
  lent_stays = refl;
})

pub failed_write_keeps : (old new : OpenImage) (w u : Bool) (content : Option (List ℕ)) (n : ℕ)
    → new ≡ record old { written = w; content = content; unsynced = u; calls = failed_write n ∷ old.calls }
    → KeepsAttributes (file_state old) (file_state new)
failed_write_keeps old new w u content n is = rw is (record {
  size_stays = refl;
  faithful_stays = refl;
  honest_before = λ h. h;
  never_fails_stays = refl;
  lent_stays = refl;
})

pub read_many_keeps : (old new : OpenImage) (n : ℕ) (was bytes : List ℕ)
    → new ≡ record old { calls = read n bytes ∷ asked was ∷ old.calls }
    → KeepsAttributes (file_state old) (file_state new)
read_many_keeps old new n was bytes is = rw is (record {
  size_stays = refl;
  faithful_stays = refl;
  honest_before = λ h. (and_parts _ _ h).0;
  never_fails_stays = refl;
  lent_stays = refl;
})

pub declined_keeps : (old new : OpenImage) (was bytes : List ℕ)
    → new ≡ record old { calls = declined bytes ∷ asked was ∷ old.calls }
    → KeepsAttributes (file_state old) (file_state new)
declined_keeps old new was bytes is = rw is (record {
  size_stays = refl;
  faithful_stays = refl;
  honest_before = λ h. (and_parts _ _ h).0;
  never_fails_stays = refl;
  lent_stays = refl;
})

pub refused_keeps : (old new : OpenImage) (w u : Bool) (content : Option (List ℕ))
    → new ≡ record old { written = w; content = content; unsynced = u } → KeepsAttributes (file_state old) (file_state new)
refused_keeps old new w u content is = rw is (record {
  size_stays = refl;
  faithful_stays = refl;
  honest_before = λ h. h;
  never_fails_stays = refl;
  lent_stays = refl;
})

-- reads
pub read_one : (old new : OpenImage) (n : ℕ) (to : List ℕ) → new ≡ after (read n to) old → n < file_block_count old
    → length to ≡ 512 → (file_state new).honest ≡ true → ReadsBlock (file_state old) n (file_state new) to
read_one old new n to is on_unit long =
    subst (λ (image : OpenImage). (file_state image).honest ≡ true
    → ReadsBlock (file_state old) n (file_state image) to) (sym is) (λ h. record {
      value = block_is old n to h on_unit long;
      state_stays = stays old n to h;
      calls = record { before = tt; sooner = refl };
    })

pub read_many : (old new : OpenImage) (n count : ℕ) (was to : List ℕ)
    → new ≡ record old { calls = read n to ∷ asked was ∷ old.calls } → n + count ≤ file_block_count old
    → length to ≡ 512 * count → (file_state new).honest ≡ true
    → ReadsBlocks (file_state old) n count (file_state new) to
read_many old new n count was to is on_unit long =
    subst (λ (image : OpenImage). (file_state image).honest ≡ true
    → ReadsBlocks (file_state old) n count (file_state image) to) (sym is) (λ h. record {
      value = blocks_are (after (asked was) old) n to h count on_unit long;
      state_stays = stays (after (asked was) old) n to h;
      calls = record { before = tt; sooner = refl };
    })

pub failed_read : (old new : OpenImage) → new ≡ after failed old → FailsToRead (file_state old) (file_state new)
failed_read old new is = rw is (record {
  counted = refl;
  calls = record { now = tt; over = refl };
})

pub read_none : (old new : OpenImage) (was to : List ℕ)
    → new ≡ record old { calls = declined to ∷ asked was ∷ old.calls } → (file_state new).honest ≡ true
    → ReadsNone (file_state old) (file_state new) was to
read_none old new was to is =
    subst (λ (image : OpenImage). (file_state image).honest ≡ true
    → ReadsNone (file_state old) (file_state image) was to) (sym is) (λ h. record {
      bytes_stay = sym ((bytes_eq-Decides was to).0 (and_parts _ _ h).1);
      state_stays = ap (λ (b : Bool). record (file_state old) { honest = b }) (h ∙ sym (and_parts _ _ h).0);
    })

same_block : (blocks : List (List ℕ)) (n : ℕ) (block : List ℕ) → slice_get blocks n ≡ Some block
    → slice_set blocks n block ≡ blocks
same_block blocks n block is =
    ap (λ x. slice_set blocks n x) (sym (get_or_from_slice_get blocks n block block is)) ∙ set-get_or blocks n block

-- a write to a file that isn't writable leaves its block as it was
pub refused_one : (old new : OpenImage) (n : ℕ) → new ≡ after failed old → n < file_block_count old
    → FailsToWrite (file_state old) n (file_state new)
refused_one old new n is on_unit =
    let bytes = (holding old).bytes in
    let inside : n < block_count_of bytes = rw (count-holding old) on_unit in
    rw is (record {
      left = block_of bytes n;
      whole = length-block_of bytes n inside;
      written = ap (λ (b : List (List ℕ)). record (file_state old) {
        blocks = b;
        failures = (holding old).failures + 1;
      }) (sym (same_block (blocks_of bytes) n (block_of bytes n) (slice_get-blocks_of bytes n inside)));
      calls = record { now = tt; over = refl };
    })

-- writes
pub written_many : (old new : OpenImage) (w u : Bool) (content : Option (List ℕ)) (n count : ℕ) (from : List ℕ)
    → new ≡ record old { written = w; content = content; unsynced = u; calls = written n from ∷ old.calls }
    → n + count ≤ file_block_count old → length from ≡ 512 * count
    → WritesBlocks (file_state old) n count (file_state new) from
written_many old new w u content n count from is on_unit long = rw is (record {
  written = ap (λ (b : List (List ℕ)). record (file_state old) { blocks = b })
      (blocks_of-put (holding old).bytes n count from (rw (count-holding old) on_unit) long);
  calls = record { before = tt; sooner = refl };
})

pub block_within : (bytes : List ℕ) (n : ℕ) → n < block_count_of bytes → 512 * n + 512 ≤ length bytes
unfolding block_count_of
block_within bytes n h = omega arith

-- a block that is put over another is in its place
pub put-is-with_block : (bytes : List ℕ) (n : ℕ) (block : List ℕ) → 512 * n + 512 ≤ length bytes
    → length block ≡ 512 → put bytes (512 * n) block ≡ with_block bytes n block
unfolding put with_block
put-is-with_block bytes n block within e =
    let at = 512 * n in
    let long : length (take at bytes ++ (block ++ drop (at + length block) bytes)) ≡ length bytes =
    simp (length-take, length-append, length-drop) (omega arith) in
    take_all (length bytes) _ (omega (arith, long))
    ∙ ap (λ (end : ℕ). take at bytes ++ (block ++ drop end bytes)) (omega arith)

blocks_of-put_one : (image : OpenImage) (n : ℕ) (block : List ℕ) → n < file_block_count image → length block ≡ 512
    → blocks_of (put (holding image).bytes (512 * n) block)
    ≡ slice_set (blocks_of (holding image).bytes) n block
blocks_of-put_one image n block on_unit long =
    let bytes = (holding image).bytes in
    let inside : n < block_count_of bytes = rw (count-holding image) on_unit in
    ap blocks_of (put-is-with_block bytes n block (block_within bytes n inside) long)
    ∙ blocks_of-with_block bytes n block inside long

pub written_one : (old new : OpenImage) (w u : Bool) (content : Option (List ℕ)) (n : ℕ) (from : List ℕ)
    → new ≡ record old { written = w; content = content; unsynced = u; calls = written n from ∷ old.calls }
    → n < file_block_count old → length from ≡ 512 → WritesBlock (file_state old) n (file_state new) from
written_one old new w u content n from is on_unit long = rw is (record {
  written = ap (λ (b : List (List ℕ)). record (file_state old) { blocks = b })
      (blocks_of-put_one old n from on_unit long);
  calls = record { before = tt; sooner = refl };
})

pub failed_one : (old new : OpenImage) (w u : Bool) (content : Option (List ℕ)) (n : ℕ)
    → new ≡ record old { written = w; content = content; unsynced = u; calls = failed_write n ∷ old.calls }
    → n < file_block_count old → FailsToWrite (file_state old) n (file_state new)
failed_one old new w u content n is on_unit =
    let block = block_left old.blocks_left (holding old).failed_writes in
    let long : length block ≡ 512 = length-fitted 1 (drop (512 * (holding old).failed_writes) old.blocks_left) in
    rw is (record {
      left = block;
      whole = long;
      written = ap (λ (b : List (List ℕ)). record (file_state old) {
        blocks = b;
        failures = (holding old).failures + 1;
      }) (blocks_of-put_one old n block on_unit long);
      calls = record { now = tt; over = refl };
    })

-- where the content is known, its bytes are those that the calls tell of
module _ (old : OpenImage) where
  full : (bytes : List ℕ) → (holding old).bytes ≡ bytes → length bytes ≡ 512 * file_block_count old
  full bytes is = ap length (sym is) ∙ length-holding (file_block_count old) old.held old.blocks_left old.calls

  known_read_at : (content : Option (List ℕ)) (n : ℕ) (to : List ℕ) (done : Type 0)
      → 512 * n + length to ≤ 512 * file_block_count old → ReadsAt content (512 * n) to done
      → done
      → IfSome content (λ bytes. ((holding old).bytes ≡ bytes) × ((holding old).honest ≡ true))
      → IfSome content (λ bytes. ((holding old).bytes ≡ bytes) × ((holding (after (read n to) old)).honest ≡ true))
  known_read_at None n to done within reads did known = tt
  known_read_at (Some bytes) n to done within reads did known =
      let came = reads (omega (arith, full bytes known.0, within)) did in
      (known.0, rw (known.1, known.0) ((bytes_eq-Decides (part bytes (512 * n) (length to)) to).1 (sym came)))

  known_write_at : (content content_after : Option (List ℕ)) (n : ℕ) (from : List ℕ) (done : Type 0)
      → 512 * n + length from ≤ 512 * file_block_count old → (content ≡ None → content_after ≡ None)
      → WritesAt content (512 * n) from content_after done → done
      → IfSome content (λ bytes. ((holding old).bytes ≡ bytes) × ((holding old).honest ≡ true))
      → IfSome content_after (λ bytes.
      (put (holding old).bytes (512 * n) from ≡ bytes) × ((holding old).honest ≡ true))
  known_write_at None content_after n from done within unknown writes did known = rw (unknown refl) tt
  known_write_at (Some bytes) content_after n from done within unknown writes did known =
      let put_is = writes.if_done (omega (arith, full bytes known.0, within)) did in
      rw put_is (ap (λ (b : List ℕ). put b (512 * n) from) known.0, known.1)

pub known_read : (old new : OpenImage) (n : ℕ) (to : List ℕ) (done : Type 0) → new ≡ after (read n to) old
    → n < file_block_count old → length to ≡ 512 → ReadsAt old.content (512 * n) to done → done → IsAsKnown old → IsAsKnown new
known_read old new n to done is on_unit long reads did known =
    rw is (known_read_at old old.content n to done (omega (arith, on_unit, long)) reads did known)

pub known_reads : (old new : OpenImage) (n count : ℕ) (was to : List ℕ) (done : Type 0)
    → new ≡ record old { calls = read n to ∷ asked was ∷ old.calls } → n + count ≤ file_block_count old
    → length to ≡ 512 * count → ReadsAt old.content (512 * n) to done → done → IsAsKnown old → IsAsKnown new
known_reads old new n count was to done is on_unit long reads did known =
    rw is (known_read_at (after (asked was) old) old.content n to done (omega (arith, on_unit, long)) reads did known)

pub known_failed : (old new : OpenImage) → new ≡ after failed old → IsAsKnown old → IsAsKnown new
known_failed old new is known = rw is known

pub known_write : (old new : OpenImage) (w u : Bool) (content : Option (List ℕ)) (n : ℕ) (from : List ℕ) (done : Type 0)
    → new ≡ record old { written = w; content = content; unsynced = u; calls = written n from ∷ old.calls }
    → 512 * n + length from ≤ 512 * file_block_count old → (old.content ≡ None → content ≡ None)
    → WritesAt old.content (512 * n) from content done → done → IsAsKnown old → IsAsKnown new
known_write old new w u content n from done is within unknown writes did known =
    rw is (known_write_at old old.content content n from done within unknown writes did known)

-- where the bytes are known, and no call fails, a call leaves an image as it has to be
pub holds_read : (old new : OpenImage) (n : ℕ) (to : List ℕ) (done : Type 0) → new ≡ after (read n to) old
    → 512 * n + length to ≤ 512 * file_block_count old → ReadsAt old.content (512 * n) to done → done
    → HoldsKnownBytes old → HoldsKnownBytes new
holds_read old new n to done is within reads did holds =
    let bytes = (holding old).bytes in
    let came : to ≡ part bytes (512 * n) (length to) =
    (rw holds.content at reads) (omega (arith, within, full old bytes refl)) did in
    rw is (record {
      content = holds.content;
      honest = rw holds.honest ((bytes_eq-Decides (part bytes (512 * n) (length to)) to).1 (sym came));
      never_fails = holds.never_fails;
    })

pub holds_failed : (old new : OpenImage) → new ≡ after failed old → HoldsKnownBytes old → HoldsKnownBytes new
holds_failed old new is holds =
    rw is (record { content = holds.content; honest = holds.honest; never_fails = holds.never_fails })

pub holds_asked : (old new : OpenImage) (was : List ℕ) → new ≡ after (asked was) old → HoldsKnownBytes old
    → HoldsKnownBytes new
holds_asked old new was is holds =
    rw is (record { content = holds.content; honest = holds.honest; never_fails = holds.never_fails })

pub holds_written : (old new : OpenImage) (w u : Bool) (content : Option (List ℕ)) (n : ℕ) (from : List ℕ)
    (done : Type 0)
    → new ≡ record old { written = w; content = content; unsynced = u; calls = written n from ∷ old.calls }
    → 512 * n + length from ≤ 512 * file_block_count old → WritesAt old.content (512 * n) from content done → done
    → HoldsKnownBytes old → HoldsKnownBytes new
holds_written old new w u content n from done is within writes did holds =
    let bytes = (holding old).bytes in
    let put_is : content ≡ Some (put bytes (512 * n) from) =
    (rw holds.content at writes.if_done) (omega (arith, within, full old bytes refl)) did in
    rw is (record { content = put_is; honest = holds.honest; never_fails = holds.never_fails })

-- an image that is sound has been honest
pub honest_if_sound : (image : OpenImage) → (image.known ≡ true → HoldsKnownBytes image)
    → is_sound (file_state image) ≡ true → (file_state image).honest ≡ true
honest_if_sound image holds sound = elim (cases_Bool image.known) [
  | inl known ↦ (holds known).honest
  | inr unknown ↦ rw unknown at sound
]

-- a call on the blocks of such an image is done
pub done_there : (old : OpenImage) (n count : ℕ) (done : Type 0) → HoldsKnownBytes old
    → 512 * n + count ≤ 512 * file_block_count old
    → (old.never_fails ≡ true → IsDoneAt old.content (512 * n) count done) → done
done_there old n count done holds within infallible =
    (rw holds.content at (infallible holds.never_fails)) (omega (arith, within, full old (holding old).bytes refl))

-- bytes that stay
pub none_changes : (at count : ℕ) (content : Option (List ℕ)) → ChangesAtMost at count content content
none_changes at count None = tt
none_changes at count (Some bytes) =
    λ within. (part bytes at count, (length-part-le bytes at count within, ap Some (sym (put-part bytes at count))))

-- the same of each call, by what came of it
pub holds_read_by : (old new : OpenImage) (n : ℕ) (to : List ℕ) (done : Bool)
    → new ≡ after (if done then read n to else failed) old → 512 * n + length to ≤ 512 * file_block_count old
    → ReadsAt old.content (512 * n) to (done ≡ true) → HoldsKnownBytes old → HoldsKnownBytes new
holds_read_by old new n to true is within reads holds = holds_read old new n to (true ≡ true) is within reads refl holds
holds_read_by old new n to false is within reads holds = holds_failed old new is holds

pub holds_tried_by : (old new : OpenImage) (n : ℕ) (was to : List ℕ) (done : Bool)
    → new ≡ after (if done then read n to else declined to) (after (asked was) old)
    → 512 * n + length to ≤ 512 * file_block_count old → length to ≡ length was
    → ReadsAt old.content (512 * n) to (done ≡ true)
    → (old.never_fails ≡ true → IsDoneAt old.content (512 * n) (length was) (done ≡ true))
    → HoldsKnownBytes old → HoldsKnownBytes new
holds_tried_by old new n was to true is within same reads infallible holds =
    holds_read (after (asked was) old) new n to (true ≡ true) is within reads refl
    (holds_asked old (after (asked was) old) was refl holds)
holds_tried_by old new n was to false is within same reads infallible holds =
    let no : false ≡ true = done_there old n (length was) (false ≡ true) holds (omega (arith, within, same)) infallible in
    absurd (cc)

pub holds_written_by : (old new : OpenImage) (w u : Bool) (content : Option (List ℕ)) (n : ℕ) (from : List ℕ)
    (done : Bool) (otherwise : List FileCall)
    → new ≡ record old {
      written = w;
      content = content;
      unsynced = u;
      calls = if done then written n from ∷ old.calls else otherwise;
    }
    → 512 * n + length from ≤ 512 * file_block_count old → WritesAt old.content (512 * n) from content (done ≡ true)
    → (old.never_fails ≡ true → IsDoneAt old.content (512 * n) (length from) (done ≡ true))
    → HoldsKnownBytes old → HoldsKnownBytes new
holds_written_by old new w u content n from true otherwise is within writes infallible holds =
    holds_written old new w u content n from (true ≡ true) is within writes refl holds
holds_written_by old new w u content n from false otherwise is within writes infallible holds =
    let no : false ≡ true = done_there old n (length from) (false ≡ true) holds within infallible in absurd (cc)

-- reads and writes of several blocks, by what came of them
pub tries_to_read : (old new : OpenImage) (n count : ℕ) (was to : List ℕ) (done : Bool)
    → new ≡ after (if done then read n to else declined to) (after (asked was) old)
    → n + count ≤ file_block_count old → length to ≡ 512 * count → (file_state new).honest ≡ true
    → TriesToRead (file_state old) n count (file_state new) was to done
tries_to_read old new n count was to true is on_unit long honest = read_many old new n count was to is on_unit long honest
tries_to_read old new n count was to false is on_unit long honest = read_none old new was to is honest

pub tries_to_write : (old new : OpenImage) (w u : Bool) (content : Option (List ℕ)) (n count : ℕ) (from : List ℕ)
    (done : Bool)
    → new ≡ record old {
      written = w;
      content = content;
      unsynced = u;
      calls = if done then written n from ∷ old.calls else old.calls;
    }
    → n + count ≤ file_block_count old → length from ≡ 512 * count
    → TriesToWrite (file_state old) n count (file_state new) from done
tries_to_write old new w u content n count from true is on_unit long =
    written_many old new w u content n count from is on_unit long
tries_to_write old new w u content n count from false is on_unit long =
    ap file_state is

pub ruleset file_steps = (
  read_keeps,
  failed_keeps,
  written_keeps,
  failed_write_keeps,
  read_many_keeps,
  declined_keeps,
  refused_keeps,
  refused_one,
  known_failed,
)
