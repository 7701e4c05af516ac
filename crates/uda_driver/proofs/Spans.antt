-- Requests conflict as their spans do.
use Rattle.std.proofs.Common.{◌≡◌, ℕ, ◌+◌, Bool, true, false, List, [], ◌∷◌, Option, Some, None, refl, ap, ◌∙◌, arith}
use Rattle.std.specs.Prelude.{◌||◌, ◌&&◌, nat_eq, nat_lt, min, max, if◌then◌else◌}
use Rattle.std.specs.Option.{is_some, option_map_or}
use Rattle.std.specs.List.{list_any}
use Rattle.std.proofs.lemmas.Bool.Decides.{nat_tests}
use Rattle.uda_disk.specs.Request.{Request, Extent, blocks_for, extent_of}
use Rattle.uda_disk.specs.Order.{clash}
use Rattle.uda_driver.specs.declared.outstanding.Outstanding.{Outstanding}
use Rattle.uda_driver.specs.declared.span.Span.{Span}
use Rattle.uda_driver.specs.Span.{span_of, spans_clash}
use Rattle.uda_driver.specs.Outstanding.{clashes_with, clashes_with_any, span_clashes}

-- what a transfer of these blocks does, or what an act that is none does
abbrev does_write : Option Extent → Bool
does_write e = option_map_or (λ (x : Extent). x.writes) e false

abbrev first_of : Option Extent → ℕ
first_of e = option_map_or (λ (x : Extent). x.lbn) e 0

abbrev blocks_of : Option Extent → ℕ
blocks_of e = option_map_or (λ (x : Extent). blocks_for x.bytes) e 0

abbrev end_of : Option Extent → ℕ
end_of e = if is_some e then first_of e + blocks_of e else 0

-- no block lies before block 0
none_before : (same some : Bool) (n k : ℕ) → k ≡ 0 → (same && some && nat_lt n k) ≡ false
none_before same true n k is = grind (arith, nat_tests)
none_before same false n k is = grind (arith, nat_tests)

by_extents : (u v : ℕ) (a b : Option Extent)
    → (nat_eq u v && (does_write a || does_write b)
    && nat_lt (max (first_of a) (first_of b)) (min (end_of a) (end_of b)))
    ≡ (is_some a && is_some b && nat_eq u v && (does_write a || does_write b)
    && nat_lt (max (first_of a) (first_of b)) (min (first_of a + blocks_of a) (first_of b + blocks_of b)))
by_extents u v (Some a) (Some b) = refl
by_extents u v (Some a) None = none_before (nat_eq u v) (a.writes || false) _ _ (omega arith)
by_extents u v None b = none_before (nat_eq u v) (false || does_write b) _ _ (omega arith)

pub same_clash : (r s : Request) → spans_clash (span_of r) (span_of s) ≡ clash r s
same_clash r s = by_extents r.unit s.unit (extent_of r.act) (extent_of s.act)

same_slot : (r : Request) (slot : Option Outstanding) → span_clashes (span_of r) slot ≡ clashes_with r slot
same_slot r None = refl
same_slot r (Some one) = ap (spans_clash (span_of r)) one.spans ∙ same_clash r _

pub same_any : (r : Request) (out : List (Option Outstanding))
    → list_any (span_clashes (span_of r)) out ≡ clashes_with_any r out
same_any r [] = refl
same_any r (slot ∷ rest) =
    ap (λ (b : Bool). b || list_any (span_clashes (span_of r)) rest) (same_slot r slot)
    ∙ ap (λ (b : Bool). clashes_with r slot || b) (same_any r rest)

pub any_clashes : (r : Request) (span : Span) (out : List (Option Outstanding)) → span ≡ span_of r
    → list_any (span_clashes span) out ≡ clashes_with_any r out
any_clashes r span out is = ap (λ (s : Span). list_any (span_clashes s) out) is ∙ same_any r out
