-- Runs over disks that differ only in their blocks.
use Rattle.std.proofs.Common.{◌≡◌, ◌<◌, zero, suc, false, List, [], ◌∷◌, ◌++◌, length, get_or, Option, Some, sym, ap, ap₂, ◌∙◌, arith, subst}
use Rattle.std.specs.Prelude.{slice_get, option_map}
use Rattle.std.proofs.lemmas.Option.{slice_get_within, slice_get-map, slice_get-get_or}
use Rattle.uda_disk.specs.Disk.{Disks}
use Rattle.uda_disk.specs.Request.{Act, Request}
use Rattle.uda_disk.specs.Answer.{Answer, TooLong}
use Rattle.uda_disk.specs.RequestEffect.{Done}
use Rattle.uda_disk.specs.InOrderRun.{step, run_in_order}
use Rattle.uda_disk.proofs.Errors.{is_error}
use Rattle.uda_disk.specs.Units.{Units, disks_of}
use Rattle.uda_disk.proofs.Runs.{length-runs}
use Rattle.uda_posting.specs.UpToData.{bares, outline, outlines, AnswerMatches, AllAnswersMatch, MatchesUpToData}
use Rattle.uda_posting.proofs.Seemings.{step_looks, plain_each, done-begun, outline_same}
use Rattle.uda_script_run.proofs.Appends.{runs-append}

-- in-order runs over disks that differ only in their blocks have the same outlines
plain_looks : (requests : List Request) (disks others : Disks) → bares disks ≡ bares others
    → outlines (run_in_order disks requests) ≡ outlines (run_in_order others requests)
plain_looks [] disks others same = ap (λ ds. ([], ds)) same
plain_looks (r ∷ rest) disks others same =
    let looks = step_looks Done Done r disks others same in
    ap₂ (λ (l : Option Answer × Disks) (later : List (Option Answer) × Disks). (l.0 ∷ later.0, later.1))
    looks (plain_looks rest (step r disks).1 (step r others).1 (ap (λ l. l.1) looks))

goes_alike : (act : Act) (one other told : Answer) → outline one ≡ outline other → is_error one ≡ false
    → is_error other ≡ false → AnswerMatches act other told → AnswerMatches act one told
goes_alike act one other told same clean clean_other goes =
    let two = outline_same one other same in
    let is = done-begun other clean_other ∙ sym two.0 in
    let done = is ∙ sym (done-begun one clean) in
    record {
      same = λ undone. goes.same (done ∙ undone) ∙ sym (two.1 (sym (done-begun one clean) ∙ undone));
      ends = λ it. goes.ends (done ∙ it);
    }

-- what matches the in-order run over some disks matches that over disks that differ only in their blocks
go_alike : (requests : List Request) (disks others : Disks) (told : List Answer)
    → bares disks ≡ bares others → AllAnswersMatch requests (run_in_order others requests).0 told
    → AllAnswersMatch requests (run_in_order disks requests).0 told
go_alike requests disks others told same go k r one now at_r at_one at_now =
    let answers = (run_in_order others requests).0 in
    let other = get_or answers k TooLong in
    let within : k < length answers =
    omega (arith, length-runs step requests others, slice_get_within requests k r at_r) in
    let at_other = slice_get-get_or answers k TooLong within in
    let looks : Some (outline one) ≡ Some (outline other) =
    sym (slice_get-map outline (run_in_order disks requests).0 k ∙ ap (option_map outline) at_one)
    ∙ ap (λ w. slice_get w.0 k) (plain_looks requests disks others same)
    ∙ slice_get-map outline answers k ∙ ap (option_map outline) at_other in
    let same_look : outline one ≡ outline other = cc in
    goes_alike r.act one other now same_look (plain_each requests disks k r one at_r at_one).clean
    (plain_each requests others k r other at_r at_other).clean (go k r other now at_r at_other at_now)

pub go-both : (a b : List Request) (plain later told more : List Answer) → length plain ≡ length a
    → length told ≡ length a → AllAnswersMatch a plain told → AllAnswersMatch b later more
    → AllAnswersMatch (a ++ b) (plain ++ later) (told ++ more)
go-both [] b [] later [] more size count one two k r done now at_r at_done at_now = two k r done now at_r
    at_done at_now
go-both (q ∷ a) b (p ∷ plain) later (t ∷ told) more size count one two zero r done now at_r at_done
    at_now = one zero r done now at_r at_done at_now
go-both (q ∷ a) b (p ∷ plain) later (t ∷ told) more size count one two
    (suc k) r done now at_r at_done at_now =
    go-both a b plain later told more (omega arith) (omega arith)
    (λ j. one (suc j)) two k r done now at_r at_done at_now
go-both _ b _ later _ more size count one two k r done now at_r at_done at_now = absurd (omega arith)

-- a run that matches the in-order one up to data, and then another from its end
pub in_order_run_up_to_data-both : (units between after : Units) (a b : List Request) (told later : List Answer)
    → length told ≡ length a → MatchesUpToData units a told between → MatchesUpToData between b later after
    → MatchesUpToData units (a ++ b) (told ++ later) after
in_order_run_up_to_data-both units between after a b told later size one two =
    let first : List Answer × Disks = run_in_order (disks_of units) a in
    let both = runs-append step a b (disks_of units) in
    let same : bares first.1 ≡ bares (disks_of between) = sym one.left in
    record {
      left = two.left ∙ sym (ap (λ w. w.1) (plain_looks b first.1 (disks_of between) same))
          ∙ sym (ap (λ (x : List Answer × Disks). bares x.1) both);
      answered = subst (λ (x : List Answer × Disks). AllAnswersMatch (a ++ b) x.0 (told ++ later)) (sym both)
          (go-both a b first.0 (run_in_order first.1 b).0 told later
          (length-runs step a (disks_of units)) size one.answered
          (go_alike b first.1 (disks_of between) later same two.answered));
    }
