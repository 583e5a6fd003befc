-- The kinds of an address, and which may stand where.
-- Section "Frame header".
use Rattle.std.specs.Prelude.{ℕ, ◌%◌, Bool, not, ◌==◌, nat_le, nat_lt}
use Rattle.combine.specs.Tests.{both, either}

-- the top bit is 0
unfoldable pub server : ℕ → Bool
server address = nat_lt address 2147483648

-- the top bit is 1, the next three are any scope, the last 28 are all ones
unfoldable pub broadcast : ℕ → Bool
broadcast address = both (nat_le 2147483648 address) (address % 268435456 == 268435455)

-- source and proxy are servers; destination is a server or a broadcast, and a broadcast has no proxy
unfoldable pub addresses_fit : ℕ → ℕ → Bool → ℕ → Bool
addresses_fit source destination hasProxy proxy =
    both (server source)
    (both (either (server destination) (both (broadcast destination) (not hasProxy)))
    (either (not hasProxy) (server proxy)))
