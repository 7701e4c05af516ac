-- Writes of consecutive pieces, and what they leave.
use Rattle.std.proofs.Common.{◌≡◌, Bool, true, false, inl, inr, ℕ, suc, ◌+◌, ◌-◌, ◌*◌, ◌<◌, ◌≤◌, min, max, List, [], ◌∷◌, ◌++◌, length, Some, refl, sym, ap, ◌∙◌, arith, subst}
use Rattle.std.specs.Prelude.{All, slice_get, option_map}
use Rattle.std.specs.List.{concat}
use Rattle.std.proofs.Math.Nat.{mul-suc}
use Rattle.std.proofs.lemmas.Bool.{cases_lt}
use Rattle.std.proofs.lemmas.List.{length_push, length-map, map_push}
use Rattle.std.proofs.lemmas.List.Elements.{All-nil, All-push}
use Rattle.std.proofs.Common.{Vec, Global, append_assoc, append-nil}
use Rattle.std.specs.Iterator.{Yields}
use Rattle.std.specs.Vec.Iter.{into_iter_items, into_iter_len, into_iter_steps}
use Rattle.std.specs.declared.vec.IntoIter.{IntoIter}
use Rattle.std.proofs.lemmas.Option.{slice_get-map, slice_get_within}
use Rattle.uda_mem.specs.Put.{part, put}
use Rattle.uda_mem.proofs.PutLaws.{length-put, length-part-le, part-next, put-nil, put-put_next}
use Rattle.uda_disk.specs.Disk.{Disks}
use Rattle.uda_disk.specs.Status.{SUCCESS}
use Rattle.uda_disk.specs.Request.{Act, Write, Request, in_blocks, blocks_for}
use Rattle.uda_disk.specs.Answer.{Answer, Data}
use Rattle.uda_disk.specs.InOrderRun.{FixedRequest, requests_of, InOrderWithFailures, step_as, step_of, run_in_order_as}
use Rattle.uda_disk.specs.Laws.{blocks_in, blocks_at, size_at, HasWholeDisk, HasSameBlocks}
use Rattle.uda_disk.specs.Values.{request_value, request_values, answer_value, answer_values}
use Rattle.uda_disk.specs.declared.answer.Answer.{Answer as Told}
use Rattle.uda_disk.specs.declared.request.Request.{Request as Made}
use Rattle.uda_disk.specs.declared.request.Request.TheVariants as made
use Rattle.uda_disk.specs.Units.{Units, disks_of, AllSound, AreSoundBefore, AreWellFormedIfSound}
use Rattle.uda_disk.proofs.Lists.{slice_get-append, slice_get-last}
use Rattle.uda_disk.proofs.Callers.{joined_and_cut, whole_count}
use Rattle.uda_disk.proofs.Successes.{answered_on_same_blocks, run_blocks_stay, successful_read, successful_write, All-part, length-joined, whole_size, whole_blocks, whole_disk}
use Rattle.uda50_copy.specs.Copy.{source_of, target_of, ChangesNoBlock, ExecutesWrites, read_of, read_from, write_of, WritesNothing, AreReads, ReturnsBlocks, EachReturnsBlocks, WritesPieces, AddsPieces, AddsPiece, Pieces, PreparesWrites, CopiesIfSound, AreWritten}

-- ---- requests that write nothing

-- another request that writes nothing
pub nothing_more : (requests : List Made) (r : Made) → All WritesNothing (request_values requests)
    → WritesNothing (request_value r) → All WritesNothing (request_values (requests ++ r ∷ []))
nothing_more requests r before now =
    rw (map_push request_value requests r) (All-push WritesNothing (request_values requests) (request_value r) before now)

-- ---- the Reads of a range

-- the Reads up to the block `lbn`
pub record ReadsSoFar (from to piece lbn : ℕ) (requests : List Request) : Type 0 where
  pub at : lbn ≡ max from (min to (from + piece * length requests))
  pub begins : (k : ℕ) → k < length requests → from + piece * k < to
  pub each : (k : ℕ) → k < length requests
      → slice_get requests k ≡ Some (read_of (from + piece * k) (min piece (to - (from + piece * k))))
  pub writes_nothing : All WritesNothing requests

pub reads_none : (from to piece : ℕ) → ReadsSoFar from to piece from []
reads_none from to piece = record {
  at = omega arith;
  begins = λ k below. absurd (omega (arith, below));
  each = λ k below. absurd (omega (arith, below));
  writes_nothing = All-nil WritesNothing;
}

pub reads_more : (from to piece lbn : ℕ) (requests : List Request) → 0 < piece → lbn < to
    → ReadsSoFar from to piece lbn requests
    → ReadsSoFar from to piece (lbn + min piece (to - lbn)) (requests ++ read_of lbn (min piece (to - lbn)) ∷ [])
reads_more from to piece lbn requests some before h =
    let n = length requests in
    let long : length (requests ++ read_of lbn (min piece (to - lbn)) ∷ []) ≡ suc n =
    length_push requests (read_of lbn (min piece (to - lbn))) ∙ omega arith in
    let next = mul-suc piece n in
    let here : lbn ≡ from + piece * n = omega (arith, h.at, before) in
    record {
      at = rw long (omega (arith, here, next, before));
      begins = λ k below. elim (cases_lt k n) [
        | inl low ↦ h.begins k low
        | inr high ↦ let same : k ≡ n = omega (arith, below, long, high) in
            subst (λ (i : ℕ). from + piece * i < to) (sym same) (omega (arith, here, before))
      ];
      each = λ k below. elim (cases_lt k n) [
        | inl low ↦ slice_get-append requests _ k _ (h.each k low)
        | inr high ↦ let same : k ≡ n = omega (arith, below, long, high) in
            slice_get-last requests k (read_of lbn (min piece (to - lbn))) same
            ∙ ap (λ (b : ℕ). Some (read_of b (min piece (to - b)))) (here ∙ ap (λ (i : ℕ). from + piece * i) (sym same))
      ];
      writes_nothing = All-push WritesNothing requests (read_of lbn (min piece (to - lbn))) h.writes_nothing refl;
    }

pub reads_all : (from to piece lbn : ℕ) (requests : List Request) → to ≤ lbn
    → ReadsSoFar from to piece lbn requests → AreReads from to piece requests
reads_all from to piece lbn requests past h = record {
  covers = omega (arith, h.at, past);
  begins = h.begins;
  each = h.each;
  writes_nothing = h.writes_nothing;
}

-- ---- a run of Reads

pub return_blocks : (units after : Units) (requests : List Request) (answers : List Answer) → All WritesNothing requests
    → AreWellFormedIfSound units → AllSound units
    → InOrderWithFailures (disks_of units) requests answers (disks_of after)
    → EachReturnsBlocks units requests answers
return_blocks units after requests answers nothing well_formed sound run u k lbn count answer asks tells bytes is =
    let found = answered_on_same_blocks run.fixed (disks_of units) k (read_from u lbn count) answer
    (subst (All WritesNothing) (sym run.are_requests) nothing)
    (ap (λ (rs : List Request). slice_get rs k) run.are_requests ∙ asks)
    (ap (λ (x : List Answer × Disks). slice_get x.0 k) run.gives ∙ tells) in
    let same = found.1.1.0 in
    subst (λ (blocks : List (List ℕ)). (lbn + count ≤ length blocks) × (bytes ≡ concat (part blocks lbn count)))
    (same.same u)
    (successful_read found.0 u lbn count found.1.0 bytes (found.1.1.1 ∙ is)
    (same.whole u (whole_disk units u well_formed (sound u))))

pub changes_no_block_by : (units after : Units) (requests : List Request) (answers : List Answer) → All WritesNothing requests
    → AreSoundBefore units after → (AreWellFormedIfSound units → AreWellFormedIfSound after)
    → (AllSound after → InOrderWithFailures (disks_of units) requests answers (disks_of after)) → ChangesNoBlock units after
changes_no_block_by units after requests answers nothing before well_formed run = record {
  stays_sound = record { sound_before = before; well_formed = well_formed };
  if_sound = λ sound.
      let ran = run sound in
      subst (HasSameBlocks (disks_of units)) (ap (λ (x : List Answer × Disks). x.1) ran.gives)
      (run_blocks_stay ran.fixed (disks_of units) (subst (All WritesNothing) (sym ran.are_requests) nothing));
}

pub changes_no_block_none : (units : Units) → ChangesNoBlock units units
changes_no_block_none units = record {
  stays_sound = record { sound_before = λ u sound. sound; well_formed = λ whole. whole };
  if_sound = λ sound. record { same = λ u. refl; whole = λ u whole. whole; sizes_stay = λ u. refl };
}

pub changes_no_block_both : (units between after : Units) → ChangesNoBlock units between → ChangesNoBlock between after
    → ChangesNoBlock units after
changes_no_block_both units between after one two = record {
  stays_sound = record {
    sound_before = λ u sound. one.stays_sound.sound_before u (two.stays_sound.sound_before u sound);
    well_formed = λ whole. two.stays_sound.well_formed (one.stays_sound.well_formed whole);
  };
  if_sound = λ sound.
      let first = one.if_sound (λ u. two.stays_sound.sound_before u (sound u)) in
      let second = two.if_sound sound in
      record {
        same = λ u. second.same u ∙ first.same u;
        whole = λ u whole. second.whole u (first.whole u whole);
        sizes_stay = λ u. second.sizes_stay u ∙ first.sizes_stay u;
      };
}

-- ---- pieces

pub pieces_more : (blocks : List (List ℕ)) (ws : List Request) (from mid count : ℕ) (r : Request)
    → WritesPieces blocks ws from mid → mid + count ≤ length blocks → r ≡ write_of mid (concat (part blocks mid count))
    → WritesPieces blocks (ws ++ r ∷ []) from (mid + count)
pieces_more blocks [] from mid count r is within made =
    subst (λ (f : ℕ). WritesPieces blocks (r ∷ []) f (mid + count)) is (count, (within, (made, refl)))
pieces_more blocks (w ∷ ws) from mid count r h within made =
    (h.0, (h.1.0, (h.1.1.0, pieces_more blocks ws (from + h.0) mid count r h.1.1.1 within made)))

pub adds_piece : (answer : Answer) (old new : List Request) (lbn count : ℕ) (bytes : List ℕ)
    → answer ≡ Data SUCCESS bytes → new ≡ old ++ write_of lbn bytes ∷ [] → AddsPiece answer old new lbn count
adds_piece answer old new lbn count bytes is added blocks returned start h =
    let found = returned bytes is in
    rw added (pieces_more blocks old start lbn count (write_of lbn bytes) h found.0
    (ap (write_of lbn) found.1))

-- Writes of all pieces that Reads returned, if no block is skipped and each store is sound
abbrev pub PreparedSoFar : Bool → Pieces → Units → Units → Type 0
PreparedSoFar skips_lost pieces units now =
    skips_lost ≡ false → AreWellFormedIfSound units → AllSound now
    → AddsPieces (source_of units) pieces.old pieces.new pieces.from pieces.to

-- ---- the answers of a run, one after another

pub taken_front : (s : IntoIter Told Global) (xs : List Told) (t : IntoIter Told Global) → Yields into_iter_steps s xs t
    → into_iter_items s ≡ xs ++ into_iter_items t
taken_front s [] t y = ap into_iter_items y
taken_front s (x ∷ xs) t y = y.1.0 ∙ ap (λ ys. x ∷ ys) (taken_front y.0 xs t y.2)

item_at : {A : Type 0} (xs : List A) (x : A) (rest : List A) → slice_get (xs ++ x ∷ rest) (length xs) ≡ Some x
item_at {A = A} xs x rest =
    ap (λ (l : List A). slice_get l (length xs)) (sym (append_assoc xs (x ∷ []) rest))
    ∙ slice_get-append (xs ++ x ∷ []) rest (length xs) x (slice_get-last xs (length xs) x refl)

-- the next answer is at the place after those that came before
pub answer_at : (s t u : IntoIter Told Global) (items yielded : List Told) (x : Told) → into_iter_items s ≡ items
    → Yields into_iter_steps s yielded t → into_iter_items t ≡ x ∷ into_iter_items u
    → slice_get (answer_values items) (length yielded) ≡ Some (answer_value x)
answer_at s t u items yielded x are came next =
    let all : items ≡ yielded ++ x ∷ into_iter_items u =
    sym are ∙ taken_front s yielded t came ∙ ap (λ (l : List Told). yielded ++ l) next in
    slice_get-map answer_value items (length yielded)
    ∙ ap (λ (l : List Told). option_map answer_value (slice_get l (length yielded))) all
    ∙ ap (option_map answer_value) (item_at yielded x (into_iter_items u))

no_items : (items : List Told) → length items ≡ 0 → items ≡ []
no_items [] none = refl
no_items (x ∷ xs) none = absurd (omega (arith, none))

-- at the end all answers have come
pub all_came : (s t : IntoIter Told Global) (items yielded : List Told) → into_iter_items s ≡ items
    → Yields into_iter_steps s yielded t → into_iter_len t ≡ 0 → length yielded ≡ length items
all_came s t items yielded are came none =
    let left : into_iter_items t ≡ [] = no_items (into_iter_items t) (sym t.rest.ok.0 ∙ none) in
    ap length (sym (append-nil yielded) ∙ ap (λ (l : List Told). yielded ++ l) (sym left)
    ∙ sym (taken_front s yielded t came) ∙ are)

-- there are as many Reads as answers
pub below : (items : List Told) (requests : List Made) (k : ℕ) (answer : Answer)
    → slice_get (answer_values items) k ≡ Some answer → length items ≡ length requests
    → k < length (request_values requests)
below items requests k answer tells counted = omega (
  arith,
  slice_get_within (answer_values items) k answer tells,
  length-map items answer_value,
  length-map requests request_value,
  counted,
)

-- the piece of the Read at place k: from `lbn` up to `stop`
pub record PieceAt (from to k lbn stop : ℕ) : Type 0 where
  pub at : lbn ≡ from + 32 * k
  pub some : lbn < stop
  pub count : stop - lbn ≡ min 32 (to - lbn)
  pub next : stop ≡ min to (from + 32 * (k + 1))

pub piece_at : (from to k lbn stop : ℕ) (requests : List Request) → AreReads from to 32 requests → k < length requests
    → lbn ≡ min to (from + 32 * k) → stop ≡ min to (min (lbn + 32) 4294967295) → to < 4294967296
    → PieceAt from to k lbn stop
piece_at from to k lbn stop requests reads within here there fits =
    let begins : from + 32 * k < to = reads.begins k within in
    let at : lbn ≡ from + 32 * k = omega (arith, here, begins) in
    record {
      at = at;
      some = omega (arith, at, begins, there, fits);
      count = omega (arith, at, begins, there, fits);
      next = omega (arith, at, begins, there, fits);
    }

-- what the answer of a Read of a range returns
pub returned_at : (from to piece : ℕ) (requests : List Request) (told : List Answer) (units : Units)
    (k lbn count : ℕ) (answer : Answer) → AreReads from to piece requests → EachReturnsBlocks units requests told
    → k < length requests → slice_get told k ≡ Some answer → lbn ≡ from + piece * k → count ≡ min piece (to - lbn)
    → ReturnsBlocks (source_of units) answer lbn count
returned_at from to piece requests told units k lbn count answer reads returned below tells at many =
    returned 0 k lbn count answer
    (reads.each k below ∙ ap (λ (b : ℕ). Some (read_of b (min piece (to - b)))) (sym at)
    ∙ ap (λ (n : ℕ). Some (read_of lbn n)) (sym many))
    tells

-- after the last of them, all blocks of the range have come
pub reads_end : (from to piece lbn n : ℕ) (requests : List Request) → AreReads from to piece requests → from < to
    → n ≡ length requests → lbn ≡ min to (from + piece * n) → lbn ≡ to
reads_end from to piece lbn n requests reads some all at =
    let covered : to ≤ from + piece * n = rw all reads.covers in
    omega (arith, at, covered)

pub adds_next : (blocks : List (List ℕ)) (old ws new : List Request) (from lbn count : ℕ) (answer : Answer)
    → AddsPieces blocks old ws from lbn → ReturnsBlocks blocks answer lbn count → AddsPiece answer ws new lbn count
    → AddsPieces blocks old new from (lbn + count)
adds_next blocks old ws new from lbn count answer before returned added start h =
    added blocks returned start (before start h)

abbrev writes : Act → Bool
writes (Write lbn payload) = true
writes _ = false

other : false ≡ true → ⊥
other h = absurd (cc)

-- a request that is no Write
pub not_written : (r : Made) (lbn : ℕ) (payload : List ℕ) → request_value r ≡ write_of lbn payload
    → ((x y : ℕ) (z : Vec ℕ Global) → r ≡ made.Write x y z → ⊥) → ⊥
not_written (made.Write x y z) lbn payload is not = not x y z refl
not_written (made.Online x y) lbn payload is not = absurd (other (ap (λ (r : Request). writes r.act) is))
not_written (made.Available x) lbn payload is not = absurd (other (ap (λ (r : Request). writes r.act) is))
not_written (made.Status x) lbn payload is not = absurd (other (ap (λ (r : Request). writes r.act) is))
not_written (made.Read x y z) lbn payload is not = absurd (other (ap (λ (r : Request). writes r.act) is))
not_written (made.Access x y z) lbn payload is not = absurd (other (ap (λ (r : Request). writes r.act) is))
not_written (made.Erase x y z) lbn payload is not = absurd (other (ap (λ (r : Request). writes r.act) is))

-- one piece more, whose Write was added by the answer of its Read
pub gathering_next : (skips_lost : Bool) (old ws new : List Request) (from lbn stop : ℕ) (answer : Answer)
    (units first now after : Units) → lbn < stop → ChangesNoBlock units first → ChangesNoBlock first now → ChangesNoBlock now after
    → (AreWellFormedIfSound units → AllSound first → ReturnsBlocks (source_of units) answer lbn (stop - lbn))
    → (ReturnsBlocks (source_of now) answer lbn (stop - lbn)
    → PreparesWrites skips_lost (record { old = ws; new = new; from = lbn; to = stop }) now after)
    → PreparedSoFar skips_lost (record { old = old; new = ws; from = from; to = lbn }) units now
    → PreparedSoFar skips_lost (record { old = old; new = new; from = from; to = stop }) units after
gathering_next skips_lost old ws new from lbn stop answer units first now after some one two three returned added before
    all whole sound start h =
    let sound_now : AllSound now = λ u. three.stays_sound.sound_before u (sound u) in
    let sound_first : AllSound first = λ u. two.stays_sound.sound_before u (sound_now u) in
    let same : source_of now ≡ source_of units =
    (two.if_sound sound_now).same 0 ∙ (one.if_sound sound_first).same 0 in
    let here : ReturnsBlocks (source_of now) answer lbn (stop - lbn) =
    subst (λ (b : List (List ℕ)). ReturnsBlocks b answer lbn (stop - lbn)) (sym same) (returned whole sound_first) in
    let whole_now = two.stays_sound.well_formed (one.stays_sound.well_formed whole) in
    let adds : AddsPieces (source_of units) ws new lbn stop =
    subst (λ (b : List (List ℕ)). AddsPieces b ws new lbn stop) same ((added here).adds all whole_now sound) in
    adds start (before all whole sound_now start h)

-- ---- a run of Writes

record Done (blocks : List (List ℕ)) (from to : ℕ) (disks left : Disks) : Type 0 where
  pub ordered : from ≤ to
  pub within : from < to → to ≤ size_at disks 1
  pub source_stays : slice_get left 0 ≡ slice_get disks 0
  pub written : blocks_at left 1 ≡ put (blocks_at disks 1) from (part blocks from (to - from))

pub part-none : (blocks : List (List ℕ)) (from : ℕ) → part blocks from 0 ≡ []
unfolding part
part-none blocks from = refl

pieces_done : (xs : List FixedRequest) (disks : Disks) (blocks : List (List ℕ)) (from to : ℕ)
    → WritesPieces blocks (requests_of xs) from to → AreWritten (requests_of xs) (run_in_order_as disks xs).0
    → All (λ block. length block ≡ 512) blocks → Done blocks from to disks (run_in_order_as disks xs).1
pieces_done [] disks blocks from to is told whole = record {
  ordered = omega (arith, is);
  within = λ some. absurd (omega (arith, is, some));
  source_stays = refl;
  written = sym (ap (λ (n : ℕ). put (blocks_at disks 1) from (part blocks from n)) (omega (arith, is))
      ∙ ap (put (blocks_at disks 1) from) (part-none blocks from) ∙ put-nil (blocks_at disks 1) from);
}
pieces_done (x ∷ xs) disks blocks from to pieces told whole =
    let count = pieces.0 in let within = pieces.1.0 in let is = pieces.1.1.0 in
    let piece = part blocks from count in
    let payload = concat piece in
    let next = (step_of x disks).1 in
    let head = told 0 from payload (ap Some is) in
    let now : (step_of x disks).0 ≡ head.0 = cc (head.1.0) in
    let wrote = successful_write x.outcome 1 from payload disks head.1.1.0
    (ap (λ (q : Request). (step_as x.outcome q disks).0) (sym is) ∙ now ∙ head.1.1.1) in
    let next_is : next ≡ (step_as x.outcome (write_of from payload) disks).1 =
    ap (λ (q : Request). (step_as x.outcome q disks).1) is in
    let rest = pieces_done xs next blocks (from + count) to pieces.1.1.1 (λ k lbn bytes asked. told (suc k) lbn bytes asked)
    whole in
    let here : in_blocks payload ≡ piece = joined_and_cut piece (All-part blocks from count whole) in
    let left = count + (to - (from + count)) in
    let same : left ≡ to - from = omega (arith, rest.ordered) in
    let size : size_at next 1 ≡ size_at disks 1 = ap (λ (ds : Disks). size_at ds 1) next_is ∙ wrote.size_stays in
    let long : blocks_for (length payload) ≡ count =
    ap blocks_for (length-joined blocks from count whole within) ∙ whole_count count in
    record {
      ordered = omega (arith, rest.ordered);
      within = λ some. elim (cases_lt (from + count) to) [
        | inl more ↦ omega (arith, rest.within more, size)
        | inr last ↦ omega (arith, last, wrote.within, long)
      ];
      source_stays = rest.source_stays ∙ ap (λ (ds : Disks). slice_get ds 0) next_is
          ∙ wrote.others_stay 0 (λ same. absurd (omega (arith, same)));
      written = rest.written
          ∙ ap (λ (b : List (List ℕ)). put b (from + count) (part blocks (from + count) (to - (from + count))))
          (ap (λ (ds : Disks). blocks_at ds 1) next_is ∙ wrote.written ∙ ap (put (blocks_at disks 1) from) here)
          ∙ put-put_next (blocks_at disks 1) from piece (part blocks (from + count) (to - (from + count))) (from + count)
          (ap (λ (n : ℕ). from + n) (sym (length-part-le blocks from count within)))
          ∙ ap (put (blocks_at disks 1) from) (sym (part-next blocks from count (to - (from + count))))
          ∙ ap (λ (n : ℕ). put (blocks_at disks 1) from (part blocks from n)) same;
    }

pub writes_by : (units after : Units) (requests : List Request) (answers : List Answer) → AreWritten requests answers
    → AreSoundBefore units after → (AreWellFormedIfSound units → AreWellFormedIfSound after)
    → (AllSound after → InOrderWithFailures (disks_of units) requests answers (disks_of after))
    → ExecutesWrites requests units after
writes_by units after requests answers told before well_formed run = record {
  stays_sound = record { sound_before = before; well_formed = well_formed };
  if_sound = λ sound blocks from to pieces whole.
      let ran = run sound in
      let requests_are = sym ran.are_requests in
      let answers_are = sym (ap (λ (x : List Answer × Disks). x.0) ran.gives) in
      let left_is = sym (ap (λ (x : List Answer × Disks). x.1) ran.gives) in
      let done = pieces_done ran.fixed (disks_of units) blocks from to
      (subst (λ (rs : List Request). WritesPieces blocks rs from to) requests_are pieces)
      (subst (λ (as' : List Answer). AreWritten (requests_of ran.fixed) as') answers_are
      (subst (λ (rs : List Request). AreWritten rs answers) requests_are told)) whole in
      record {
        within = done.within;
        source_stays = ap (λ (ds : Disks). blocks_at ds 0) left_is ∙ ap blocks_in done.source_stays;
        written = ap (λ (ds : Disks). blocks_at ds 1) left_is ∙ done.written;
      };
}

-- ---- a copy

-- pieces from one block up to a later one lie on the unit
pieces_within : (blocks : List (List ℕ)) (ws : List Request) (from to : ℕ) → WritesPieces blocks ws from to
    → from < to → to ≤ length blocks
pieces_within blocks [] from to is some = absurd (omega (arith, is, some))
pieces_within blocks (w ∷ ws) from to h some = elim (cases_lt (from + h.0) to) [
  | inl more ↦ pieces_within blocks ws (from + h.0) to h.1.1.1 more
  | inr last ↦ omega (arith, h.1.0, last)
]

pub copies_by : (skips_lost : Bool) (from to : ℕ) (writes : List Request) (units between after : Units)
    → PreparesWrites skips_lost (record { old = []; new = writes; from = from; to = to }) units between
    → ExecutesWrites writes between after → CopiesIfSound skips_lost from to units after
copies_by skips_lost from to writes units between after gathered written = record {
  stays_sound = record {
    sound_before = λ u sound. gathered.changes_no_block.stays_sound.sound_before u
        (written.stays_sound.sound_before u sound);
    well_formed = λ whole. written.stays_sound.well_formed (gathered.changes_no_block.stays_sound.well_formed whole);
  };
  if_sound = λ all well_formed sound.
      let mid : AllSound between = λ u. written.stays_sound.sound_before u (sound u) in
      let start : AllSound units = λ u. gathered.changes_no_block.stays_sound.sound_before u (mid u) in
      let blocks = source_of units in
      let pieces : WritesPieces blocks writes from to = gathered.adds all well_formed mid from refl in
      let same = gathered.changes_no_block.if_sound mid in
      let done = written.if_sound sound blocks from to pieces
      (whole_blocks (disks_of units) 0 (whole_disk units 0 well_formed (start 0))) in
      let image : HasWholeDisk (slice_get (disks_of between) 1) =
      same.whole 1 (whole_disk units 1 well_formed (start 1)) in
      record {
        on_source = pieces_within blocks writes from to pieces;
        on_target = λ some. omega (arith, done.within some, whole_size (disks_of between) 1 image, ap length (same.same 1));
        source_stays = done.source_stays ∙ same.same 0;
        copied = done.written ∙ ap (λ (b : List (List ℕ)). put b from (part blocks from (to - from))) (same.same 1);
      };
}

pub copies_none : (skips_lost : Bool) (from to : ℕ) (units : Units) → to ≤ from → CopiesIfSound skips_lost from to units units
copies_none skips_lost from to units none = record {
  stays_sound = record { sound_before = λ u sound. sound; well_formed = λ whole. whole };
  if_sound = λ all well_formed sound. record {
    on_source = λ some. absurd (omega (arith, none, some));
    on_target = λ some. absurd (omega (arith, none, some));
    source_stays = refl;
    copied = sym (ap (λ (n : ℕ). put (target_of units) from (part (source_of units) from n)) (omega (arith, none))
        ∙ ap (put (target_of units) from) (part-none (source_of units) from) ∙ put-nil (target_of units) from);
  };
}

pub copies_both : (skips_lost : Bool) (from mid to : ℕ) (units between after : Units) → from ≤ mid → mid < to
    → CopiesIfSound skips_lost from mid units between → CopiesIfSound skips_lost mid to between after
    → CopiesIfSound skips_lost from to units after
copies_both skips_lost from mid to units between after first second one two = record {
  stays_sound = record {
    sound_before = λ u sound. one.stays_sound.sound_before u (two.stays_sound.sound_before u sound);
    well_formed = λ whole. two.stays_sound.well_formed (one.stays_sound.well_formed whole);
  };
  if_sound = λ all well_formed sound.
      let between_sound : AllSound between = λ u. two.stays_sound.sound_before u (sound u) in
      let a = one.if_sound all well_formed between_sound in
      let b = two.if_sound all (one.stays_sound.well_formed well_formed) sound in
      let blocks = source_of units in
      let target = target_of units in
      let within : to ≤ length blocks = subst (λ (s : List (List ℕ)). to ≤ length s) a.source_stays (b.on_source second) in
      record {
        on_source = λ some. within;
        on_target = λ some. omega (
          arith,
          b.on_target second,
          ap length a.copied,
          length-put target from (part blocks from (mid - from)),
        );
        source_stays = b.source_stays ∙ a.source_stays;
        copied = b.copied
            ∙ ap (λ (s : List (List ℕ)). put (target_of between) mid (part s mid (to - mid))) a.source_stays
            ∙ ap (λ (t : List (List ℕ)). put t mid (part blocks mid (to - mid))) a.copied
            ∙ put-put_next target from (part blocks from (mid - from)) (part blocks mid (to - mid)) mid
            (omega (arith, first, second, length-part-le blocks from (mid - from) (omega (arith, first, second, within))))
            ∙ ap (put target from)
            (ap (λ (m : ℕ). part blocks from (mid - from) ++ part blocks m (to - mid)) (omega (arith, first))
            ∙ sym (part-next blocks from (mid - from) (to - mid)))
            ∙ ap (λ (n : ℕ). put target from (part blocks from n)) (omega (arith, first, second));
      };
}

-- at the end of the range
pub copies_end : (skips_lost : Bool) (from to done : ℕ) (units after : Units) → to ≤ done → from ≤ done
    → done ≤ max from to → CopiesIfSound skips_lost from done units after → CopiesIfSound skips_lost from to units after
copies_end skips_lost from to done units after past begun within copies = elim (cases_lt from to) [
  | inl some ↦ let same : done ≡ to = omega (arith, past, within, some) in
      subst (λ (n : ℕ). CopiesIfSound skips_lost from n units after) same copies
  | inr none ↦ record {
    stays_sound = copies.stays_sound;
    if_sound = λ all well_formed sound.
        let copied = copies.if_sound all well_formed sound in
        record {
          on_source = λ some. absurd (omega (arith, none, some));
          on_target = λ some. absurd (omega (arith, none, some));
          source_stays = copied.source_stays;
          copied = copied.copied ∙ ap (λ (n : ℕ). put (target_of units) from (part (source_of units) from n))
              (omega (arith, begun, within, none));
        };
  }
]
