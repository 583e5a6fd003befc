-- `forward::refused_packet` meets its contract: it makes the tests in the order of refusals.
use Rattle.forward.proofs.CodeAsks.{refuses_uid, refuses_dst, refuses_proxy, refuses_retry, refuses_nothing}
use Rattle.forward.proofs.refused_packet.Goals as goal

pub returns-then-servers-uid : goal.returns-then-servers-uid
returns-then-servers-uid c = let a = c.args in refuses_uid a.servers a.uid a.p c.if-servers-uid.true

pub returns-then-servers-p : goal.returns-then-servers-p
returns-then-servers-p c = let a = c.args in refuses_dst a.servers a.uid a.p c.if-servers-uid.false c.if-servers-p.true

pub returns-then-not-proxy_fits : goal.returns-then-not-proxy_fits
returns-then-not-proxy_fits c =
    let a = c.args in
    let f = c.proxy_fits in
    refuses_proxy a.servers a.uid a.p _ f.ensures c.if-servers-uid.false c.if-servers-p.false c.if-not-proxy_fits.true

pub returns-then-p-gt-MOST_RETRY : goal.returns-then-p-gt-MOST_RETRY
returns-then-p-gt-MOST_RETRY c =
    let f = c.proxy_fits in
    let l = c.if-servers-uid.false in
    let m = c.if-servers-p.false in
    let a = c.args in
    refuses_retry a.servers a.uid a.p _ f.ensures l m c.if-not-proxy_fits.false c.if-p-gt-MOST_RETRY.true

pub returns : goal.returns
returns c =
    let f = c.proxy_fits in
    let l = c.if-servers-uid.false in
    let m = c.if-servers-p.false in
    let a = c.args in
    refuses_nothing a.servers a.uid a.p _ f.ensures l m c.if-not-proxy_fits.false c.if-p-gt-MOST_RETRY.false
