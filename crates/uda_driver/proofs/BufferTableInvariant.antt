-- The outstanding requests, as one is posted, executed, and removed with its end message.
use Rattle.std.proofs.Common.{◌≡◌, ◌≢◌, ℕ, zero, suc, ◌+◌, ◌⊎◌, inl, inr, List, [], ◌∷◌, ◌++◌, length, map, set, Option, Some, None, refl, sym, ap, ap₂, ◌∙◌, arith, subst, subst₂, length-append}
use Rattle.std.specs.Prelude.{slice_get, remove, replicate, All, AllPairs}
use Rattle.std.proofs.lemmas.List.{map_push, append_assoc, length-set, length_push}
use Rattle.std.proofs.lemmas.List.Edits.{length-remove}
use Rattle.std.proofs.lemmas.List.Elements.{All-nil, All-cons, All-head, All-tail, All-push}
use Rattle.std.proofs.lemmas.List.Quantifiers.{all_pairs_push, all_pairs_remove}
use Rattle.std.proofs.lemmas.List.Kept.{AllPairs-cons}
use Rattle.std.proofs.lemmas.Option.{slice_get_within}
use Rattle.uda_packet.specs.declared.end.End.{End}
use Rattle.uda_exec.specs.Disks.{PENDING_LIMIT}
use Rattle.uda_disk.proofs.Slots.{slice_get-set_same, slice_get-set_other}
use Rattle.uda_posting.specs.Posting.{Posted}
use Rattle.uda_posting.specs.Outstanding.{Ended, RefersBack, AreSeparate, outstanding_of}
use Rattle.uda_posting.proofs.Owing.{separate_turned}
use Rattle.uda_disk.proofs.Lists.{All-remove, All-at, pairs_first, pairs_rest, pairs_others}
use Rattle.uda_driver.specs.Outstanding.{posted_with, IsOut}
use Rattle.uda_driver.specs.RunInvariant.{BufferTableInvariant}
use Rattle.uda_driver.specs.declared.outstanding.Outstanding.{Outstanding}
use Rattle.uda_driver.proofs.Slots.{set_at, freed_at, count-taken, count-freed}

-- ---- one of a list comes before it

module _ {A : Type 0} (ys : List A) (j : ℕ) (a : A) (stands : slice_get ys j ≡ Some a) where
  all_moved : (P : A → Type 0) (xs : List A) → All P (xs ++ ys) → All P (xs ++ a ∷ remove ys j)
  all_moved P [] all = All-cons P a (remove ys j) (All-at P ys j a all stands) (All-remove P ys j all)
  all_moved P (x ∷ xs) all = All-cons P x (xs ++ a ∷ remove ys j) (All-head P x (xs ++ ys) all)
      (all_moved P xs (All-tail P x (xs ++ ys) all))

  pairs_moved : (R : A → A → Type 0) → ((x y : A) → R x y → R y x) → (xs : List A) → AllPairs R (xs ++ ys)
      → AllPairs R (xs ++ a ∷ remove ys j)
  pairs_moved R turned [] pairs =
      AllPairs-cons R a (remove ys j) (pairs_others R R
      (λ x y two. (two, turned x y two)) ys j a pairs stands)
      (all_pairs_remove R ys j (slice_get_within ys j a stands) pairs)
  pairs_moved R turned (x ∷ xs) pairs =
      AllPairs-cons R x (xs ++ a ∷ remove ys j) (all_moved (R x) xs (pairs_first R x (xs ++ ys) pairs))
      (pairs_moved R turned xs (pairs_rest R x (xs ++ ys) pairs))

-- ---- nothing is outstanding

abbrev pub none_out : ℕ → List (Option Outstanding)
none_out n = replicate n None

pub none_at : (n i : ℕ) (one : Outstanding) → slice_get (none_out n) i ≡ Some (Some one) → ⊥
none_at zero i one stands = cc
none_at (suc n) zero one stands = cc
none_at (suc n) (suc i) one stands = none_at n i one stands

pub outs_none : (out : List (Option Outstanding)) (waiting : List End) → out ≡ replicate PENDING_LIMIT None
    → waiting ≡ [] → BufferTableInvariant out [] [] waiting
outs_none out waiting is none = subst₂ (λ (o : List (Option Outstanding)) (w : List End). BufferTableInvariant o [] [] w) (sym is)
    (sym none) (record {
      sized = refl;
      counted = refl;
      own_places = λ i k one other stands there same. absurd (none_at PENDING_LIMIT i one stands);
      are_out = All-nil (IsOut (replicate PENDING_LIMIT None));
      separate = λ i j d before within. absurd (omega arith);
      waits = refl;
      refer = All-nil RefersBack;
    })

-- ---- the steps

module _ {out : List (Option Outstanding)} {due : List Posted} {ended : List Ended} {waiting : List End}
    (outs : BufferTableInvariant out due ended waiting) where
  -- a fact of all outstanding requests is a fact of those that are not executed and of those that have
  -- ended
  pub of_alive : (P : Posted → Type 0) → ((number : ℕ) (one : Outstanding) → slice_get out number ≡ Some (Some one)
      → P (posted_with number one)) → All P (outstanding_of ended due)
  of_alive P each k d low = let it = outs.are_out k d low in subst P it.is (each it.number it.one it.stands)

  -- another buffer than one of which this is so is as it was
  still_out : (number : ℕ) (slot : Option Outstanding) (p : Posted) → (it : IsOut out p) → it.number ≢ number
      → IsOut (set out number slot) p
  still_out number slot p it other = record {
    number = it.number;
    one = it.one;
    stands = slice_get-set_other out number it.number slot other ∙ it.stands;
    is = it.is;
  }

  pub outs_post : (number : ℕ) (one : Outstanding) → slice_get out number ≡ Some None
      → ((k : ℕ) (other : Outstanding) → slice_get out k ≡ Some (Some other)
      → AreSeparate (posted_with k other) (posted_with number one))
      → BufferTableInvariant (set out number (Some one)) (due ++ posted_with number one ∷ []) ended waiting
  outs_post number one free separate =
      let p = posted_with number one in
      let within = slice_get_within out number None free in
      let after = set out number (Some one) in
      let more : outstanding_of ended (due ++ p ∷ []) ≡ outstanding_of ended due ++ p ∷ [] =
      sym (append_assoc (map (λ (d : Ended). d.posted) ended) due (p ∷ [])) in
      let here : IsOut after p = record {
        number = number;
        one = one;
        stands = slice_get-set_same out number (Some one) within;
        is = refl;
      } in
      let still : (q : Posted) → IsOut out q
      → IsOut after q = λ q it. still_out number (Some one) q it
      (λ same. let both : Some None ≡ Some (Some it.one) = sym free ∙ ap (slice_get out) (sym same)
      ∙ it.stands in cc) in
      record {
        sized = length-set out number (Some one) ∙ outs.sized;
        counted = omega (
          arith,
          count-taken out number one free,
          outs.counted,
          ap length more,
          length_push (outstanding_of ended due) p,
        );
        own_places = λ i k a b at_i at_k same. own i k a b same
            (set_at out number i (Some one) (Some a) within at_i)
            (set_at out number k (Some one) (Some b) within at_k);
        are_out = subst (All (IsOut after)) (sym more)
            (All-push (IsOut after) (outstanding_of ended due) p (λ k d low. still _ (outs.are_out k d low)) here);
        separate = subst (AllPairs AreSeparate) (sym more)
            (all_pairs_push AreSeparate (outstanding_of ended due) p outs.separate
            (of_alive (λ q. AreSeparate q p) separate));
        waits = outs.waits;
        refer = outs.refer;
      }
    where
      Now : ℕ → Outstanding → Type 0
      Now k a = ((k ≡ number) × (Some one ≡ Some a)) ⊎ ((k ≢ number) × (slice_get out k ≡ Some (Some a)))

      own : (i k : ℕ) (a b : Outstanding) → a.place ≡ b.place → Now i a → Now k b → i ≡ k
      own i k a b same (inl x) (inl y) = x.0 ∙ sym y.0
      own i k a b same (inl x) (inr y) =
          let s = x.1 in let is : one ≡ a = cc in
          absurd ((separate k b y.1).two (sym same ∙ ap (λ (o : Outstanding). o.place) (sym is)))
      own i k a b same (inr x) (inl y) =
          let s = y.1 in let is : one ≡ b = cc in
          absurd ((separate i a x.1).two (same ∙ ap (λ (o : Outstanding). o.place) (sym is)))
      own i k a b same (inr x) (inr y) = outs.own_places i k a b x.1 y.1 same

  -- a command that was due has ended
  pub outs_execute : (j : ℕ) (p : Posted) (e : End) → slice_get due j ≡ Some p → e.reference ≡ p.place + 1
      → BufferTableInvariant out (remove due j) (ended ++ record { posted = p; end = e } ∷ []) (waiting ++ e ∷ [])
  outs_execute j p e stands refers =
      let new : Ended = record { posted = p; end = e } in
      let before = map (λ (d : Ended). d.posted) ended in
      let moved : outstanding_of (ended ++ new ∷ []) (remove due j) ≡ before ++ p ∷ remove due j =
      ap (λ (ps : List Posted). ps ++ remove due j) (map_push (λ (d : Ended). d.posted) ended new)
      ∙ append_assoc before (p ∷ []) (remove due j) in
      record {
        sized = outs.sized;
        counted = omega (
          arith,
          outs.counted,
          ap length moved,
          length-append before due,
          length-append before (p ∷ remove due j),
          length-remove due j (slice_get_within due j p stands),
          slice_get_within due j p stands,
        );
        own_places = outs.own_places;
        are_out = subst (All (IsOut out)) (sym moved)
            (all_moved due j p stands (IsOut out) before outs.are_out);
        separate = subst (AllPairs AreSeparate) (sym moved)
            (pairs_moved due j p stands AreSeparate separate_turned before outs.separate);
        waits = ap (λ (es : List End). es ++ e ∷ []) outs.waits
            ∙ sym (map_push (λ (d : Ended). d.end) ended new);
        refer = All-push RefersBack ended new outs.refer refers;
      }

-- the request that an end message refers to is the one whose command made it
pub record TakenBack (out : List (Option Outstanding)) (due : List Posted) (first : Ended) (ended : List Ended)
    (waiting : List End) (number : ℕ) (one : Outstanding) : Type 0 where
  pub same : posted_with number one ≡ first.posted
  pub outs : BufferTableInvariant (set out number None) due ended waiting

module _ {out : List (Option Outstanding)} {due : List Posted} {first : Ended} {ended : List Ended} {e : End}
    {waiting : List End} (outs : BufferTableInvariant out due (first ∷ ended) (e ∷ waiting)) where
  pub own : IsOut out first.posted
  own = All-head (IsOut out) first.posted (outstanding_of ended due) outs.are_out

  pub own_reference : own.one.place + 1 ≡ e.reference
  own_reference =
      let was = outs.waits in let is : e ≡ first.end = cc in
      omega (
        arith,
        ap (λ (p : Posted). p.place) own.is,
        All-head RefersBack first ended outs.refer,
        ap (λ (x : End). x.reference) is,
      )

  pub outs_take : (number : ℕ) (one : Outstanding) → slice_get out number ≡ Some (Some one)
      → one.place + 1 ≡ e.reference → TakenBack out due first ended waiting number one
  outs_take number one stands refers =
      let place : one.place ≡ own.one.place = omega (arith, own_reference) in
      let index : number ≡ own.number = outs.own_places number own.number one own.one stands own.stands
      place in
      let here : Some (Some one) ≡ Some (Some own.one) = sym stands ∙ ap (slice_get out) index ∙ own.stands in
      let is : one ≡ own.one = cc in
      let others = pairs_first AreSeparate first.posted (outstanding_of ended due) outs.separate in
      let was : (k : ℕ) (other : Outstanding) → slice_get (set out number None) k ≡ Some (Some other)
      → slice_get out k ≡ Some (Some other) =
      λ k other there. (freed_at out number k other (slice_get_within out number _ stands) there).1 in
      let was_all = All-tail (IsOut out) first.posted (outstanding_of ended due) outs.are_out in
      let waited = outs.waits in
      record {
        same = ap₂ posted_with index is ∙ own.is;
        outs = record {
          sized = length-set out number None ∙ outs.sized;
          counted = omega (arith, count-freed out number one stands, outs.counted);
          own_places = λ i k a b at_i at_k. outs.own_places i k a b (was i a at_i) (was k b at_k);
          are_out = λ k d low.
              let it = was_all k d low in
              let two = (others k d low).two in
              still_out outs number None _ it (λ same. two
              (sym (ap (λ (p : Posted). p.place) own.is) ∙ sym place
              ∙ (let both : Some (Some it.one) ≡ Some (Some one) = sym it.stands ∙ ap (slice_get out) same
              ∙ stands in let one_is : it.one ≡ one = cc in sym (ap (λ (o : Outstanding). o.place) one_is))
              ∙ ap (λ (p : Posted). p.place) it.is));
          separate = pairs_rest AreSeparate first.posted (outstanding_of ended due) outs.separate;
          waits = cc;
          refer = All-tail RefersBack first ended outs.refer;
        };
      }
