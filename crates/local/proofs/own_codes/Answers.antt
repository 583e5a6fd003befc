-- `local::own_codes` meets its contract: the whole table in a full hall and for a fitted server, else the part that begins and ends at its start.
use Rattle.local.proofs.Counting.{full_codes, own_codes, no_codes}
use Rattle.local.proofs.own_codes.Goals as goal

pub returns-then-h-racks_of : goal.returns-then-h-racks_of
returns-then-h-racks_of c = full_codes _ _ c.requires.0 _ _ c.racks_of.ensures c.if-h-racks_of.true

pub returns-then-is_fitted : goal.returns-then-is_fitted
returns-then-is_fitted c =
    let p = c.requires in
    own_codes _ _ p.0 _ p.1 _ c.is_fitted.ensures c.if-is_fitted.true

pub returns : goal.returns
returns c =
    let p = c.requires in
    no_codes _ _ p.0 _ p.1 _ c.is_fitted.ensures c.if-is_fitted.false
