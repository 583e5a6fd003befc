-- `frame::addresses::addresses_fit` meets its contract: it asks of source, destination and proxy what the definition asks, in turn.
use Rattle.std.proofs.Common.{◌≡◌, Bool, true, false, not, refl}
use Rattle.combine.specs.Tests.{both, either}
use Rattle.frame.specs.Addresses.{server, broadcast, addresses_fit}
use Rattle.frame.proofs.addresses.addresses_fit.Goals as goal

-- the definition over what the tests say of source, destination (server, broadcast) and proxy
abbrev fit : Bool → Bool → Bool → Bool → Bool → Bool
fit source server broadcast proxied proxy =
    both source (both (either server (both broadcast (not proxied))) (either (not proxied) proxy))

broadcast_with_proxy : (b p : Bool) → false ≡ fit true false b true p
broadcast_with_proxy true p = refl
broadcast_with_proxy false p = refl

broadcast_alone : (b p : Bool) → b ≡ fit true false b false p
broadcast_alone true p = refl
broadcast_alone false p = refl

pub returns-then-not-is_server : goal.returns-then-not-is_server
unfolding addresses_fit
returns-then-not-is_server c = let s = c.is_server in rw (← s.ensures, c.if-not-is_server.true)

pub returns-then-not-is_server-2 : goal.returns-then-not-is_server-2
unfolding addresses_fit
returns-then-not-is_server-2 c =
    let d = c.is_server-then-has_proxy in
    let s = c.is_server in
    let a = c.args in
    rw (← s.ensures, c.if-not-is_server.false, c.if-has_proxy.true, ← d.ensures, c.if-not-is_server-2.true)
    (broadcast_with_proxy (broadcast a.destination) (server a.proxy))

pub returns-then-has_proxy : goal.returns-then-has_proxy
unfolding addresses_fit
returns-then-has_proxy c =
    let d = c.is_server-then-has_proxy in
    let s = c.is_server in
    rw (← s.ensures, c.if-not-is_server.false, c.if-has_proxy.true, ← d.ensures, c.if-not-is_server-2.false)
    c.is_server-then-has_proxy-2.ensures

pub returns-then-is_server : goal.returns-then-is_server
unfolding addresses_fit
returns-then-is_server c =
    let d = c.is_server-2 in
    let s = c.is_server in
    rw (← s.ensures, c.if-not-is_server.false, c.if-has_proxy.false, ← d.ensures, c.if-is_server.true)

pub returns : goal.returns
unfolding addresses_fit
returns c =
    let d = c.is_server-2 in
    let s = c.is_server in
    rw (← s.ensures, c.if-not-is_server.false, c.if-has_proxy.false, ← d.ensures, c.if-is_server.false, ← c.is_broadcast.ensures)
    (broadcast_alone _ false)
