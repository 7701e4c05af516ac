-- The outstanding requests, indexed by the numbers of their buffers. Their commands are posted, and the
-- driver has not received their end messages.
use Rattle.std.specs.Prelude.{◌≡◌, ℕ, suc, ◌+◌, ◌<◌, Bool, false, ◌||◌, nat_eq, List, [], ◌∷◌, Option, Some}
use Rattle.std.specs.Prelude.{None, slice_get}
use Rattle.std.specs.List.{list_any}
use Rattle.uda_disk.specs.Request.{Request}
use Rattle.uda_disk.specs.InOrderRun.{too_long}
use Rattle.uda_disk.specs.Order.{clash}
use Rattle.uda_posting.specs.Posting.{Posted}
use Rattle.uda_disk.specs.Values.{request_value}
use Rattle.uda_host.specs.Layout.{buffer_address}
use Rattle.uda_host.specs.Host.{HostState}
use Rattle.uda_driver.specs.Blank.{Prepared}
use Rattle.uda_driver.specs.declared.outstanding.Outstanding.{Outstanding}
use Rattle.uda_driver.specs.declared.span.Span.{Span}
use Rattle.uda_driver.specs.Span.{spans_clash}

-- an outstanding request with this buffer, as it was posted
abbrev pub posted_with : ℕ → Outstanding → Posted
posted_with number one =
    record { place = one.place; address = buffer_address number; request = request_value one.request.now }

abbrev pub occupied_count : List (Option Outstanding) → ℕ
occupied_count [] = 0
occupied_count (Some one ∷ rest) = suc (occupied_count rest)
occupied_count (None ∷ rest) = occupied_count rest

-- a reference is that of the request with this buffer: its index plus 1
abbrev pub refers : ℕ → Option Outstanding → Bool
refers reference (Some one) = nat_eq (one.place + 1) reference
refers reference None = false

abbrev pub clashes_with : Request → Option Outstanding → Bool
clashes_with r (Some one) = clash r (request_value one.request.now)
clashes_with r None = false

abbrev pub clashes_with_any : Request → List (Option Outstanding) → Bool
clashes_with_any r out = list_any (clashes_with r) out

-- the same for a span of blocks and the span of the outstanding request
abbrev pub span_clashes : Span → Option Outstanding → Bool
span_clashes span (Some one) = spans_clash span one.span
span_clashes span None = false

-- a request must wait while no credit is left, or while it conflicts with an outstanding one
abbrev pub must_wait : HostState → List (Option Outstanding) → Request → Bool
must_wait host out r = nat_eq host.credits 0 || clashes_with_any r out

-- a request that may be outstanding, of the first n requests: its answer has capacity for the bytes of a
-- Read
pub record IsFit (n : ℕ) (one : Outstanding) : Type 0 where
  pub before : one.place < n
  pub short : too_long (request_value one.request.now) ≡ false
  pub prepared : Prepared (request_value one.request.now) one.answer

abbrev pub AreFit : ℕ → List (Option Outstanding) → Type 0
AreFit n out = (number : ℕ) (one : Outstanding) → slice_get out number ≡ Some (Some one) → IsFit n one

-- a posted request is an outstanding one, with its buffer
pub record IsOut (out : List (Option Outstanding)) (p : Posted) : Type 0 where
  pub number : ℕ
  pub one : Outstanding
  pub stands : slice_get out number ≡ Some (Some one)
  pub is : posted_with number one ≡ p

-- Two outstanding requests have different indexes.
abbrev pub HaveOwnPlaces : List (Option Outstanding) → Type 0
HaveOwnPlaces out =
    (i k : ℕ) (one other : Outstanding)
    → slice_get out i ≡ Some (Some one) → slice_get out k ≡ Some (Some other)
    → one.place ≡ other.place → i ≡ k
