-- `broadcast::fitted_places` meets its contract: in a full hall the scope's servers are all fitted, within a DCell1 they are where the source is, and in a
-- DCell2 the planner tells how many are.
use mathlib.Core.Path.{◌∙◌, sym}
use native.Mathlib.Omega.{arith}
use Rattle.broadcast.proofs.Fitted.{places_full, places_none, places_local, places_front}
use Rattle.broadcast.proofs.fitted_places.Goals as goal

pub returns-then-h-racks_of : goal.returns-then-h-racks_of
returns-then-h-racks_of c =
    let a = c.args in
    places_full a.h a.source a.scope a.size c.requires _ c.racks_of.ensures c.if-h-racks_of.true

pub returns-then-not-is_fitted : goal.returns-then-not-is_fitted
returns-then-not-is_fitted c =
    let a = c.args in
    let f = c.is_fitted in
    places_none a.h a.source a.scope a.size c.requires (sym f.ensures ∙ c.if-not-is_fitted.true)

pub returns-then-scope-lt2 : goal.returns-then-scope-lt2
returns-then-scope-lt2 c =
    let a = c.args in
    let f = c.is_fitted in
    places_local a.h a.source a.scope a.size c.requires (sym f.ensures ∙ c.if-not-is_fitted.false) c.if-scope-lt2.true

pub returns : goal.returns
returns c =
    let a = c.args in
    let f = c.is_fitted in
    c.fitted_servers.ensures ∙ places_front a.h a.source a.scope a.size c.requires (sym f.ensures ∙ c.if-not-is_fitted.false) (omega arith)
