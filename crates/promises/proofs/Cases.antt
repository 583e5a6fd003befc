-- The definitions compute, so the table of cases is one computation.
use mathlib.Core.Path.{◌≡◌, refl}
use mathlib.Core.List.{map}
use Rattle.combine.specs.Tests.{any_below, all_below}
use Rattle.combine.specs.Lists.{up_to}
use Rattle.hall.specs.Refusals.{refusal}
use Rattle.hall.specs.Cells.{t, g, cell, same, sub, port, end, near, far, neighbour, lowest}
use Rattle.hall.specs.Halls.{racks, capacity, n_fits, k_fits, b_fits, count_fits, valid, servers}
use Rattle.hall.specs.Tuples.{entry, limit, uid_up_to, entry_fits, tuple_fits, entry_at}
use Rattle.hall.specs.Answers.{size_at}
use Rattle.ports.specs.Codes.{known, all_known, first_unknown, code_of, up, table_length, cell_length, run}
use Rattle.ports.specs.Links.{on_switch, both_up, joined}
use Rattle.search.specs.Rounds.{new, mark, marks}
use Rattle.route.specs.Routes.{route, hops}
use Rattle.route.specs.Answers.{padded, in_hall, first_among, first_above, first_link}
use Rattle.local.specs.Lowest.{lowest_from}
use Rattle.local.specs.Local.{cell_size, place_of, first_of, linked, distances_from, distance, nearer, hop}
use Rattle.plan.specs.Plan.{rank, prefix_of}
use Rattle.plan.specs.Answers as plan
use Rattle.counted.specs.Counted.{far_fitted, port_fitted, counted_at, counted}
use Rattle.ends.specs.Tables.{far_count, far_code, far_at, step_table, cell_part, far_place, far_in}
use Rattle.forward.specs.Packets.{is_arrived, goal}
use Rattle.forward.specs.Seen.{usable}
use Rattle.forward.specs.Proxies.{is_candidate, best_below, first_found, choice}
use Rattle.forward.specs.Steps.{reachable, first_level, reroute_on, step_from, step_on}
use Rattle.forward.specs.Journeys.{trip_on}
use Rattle.forward.specs.Answers.{passed}
use Rattle.sheet.specs.Formats.{read, and_then}
use Rattle.words.specs.Words as words
use Rattle.sheet.specs.Sheets.{fitted, times, packet, tables_of, night_sheet}
use Rattle.sheet.specs.Answers.{fitted_in, sheet_of}
use Rattle.sheet.specs.Worked.{sheet_with}
use Rattle.promises.specs.Cases.{Case, value, cases}

-- each case has the value that is stated
pub all_cases : map (λ (c : Case). value c.0) cases ≡ map (λ (c : Case). c.1) cases
unfolding any_below all_below up_to refusal t g cell same sub port end near far neighbour lowest n_fits k_fits b_fits count_fits capacity racks valid servers entry limit uid_up_to entry_fits tuple_fits entry_at size_at known all_known first_unknown code_of up table_length cell_length run on_switch both_up joined new mark marks route hops padded in_hall first_among first_above first_link lowest_from cell_size place_of first_of linked distances_from distance nearer hop is_arrived goal cell_part far_place far_in plan.fitted rank prefix_of far_fitted port_fitted counted_at counted far_count far_code far_at step_table usable is_candidate best_below first_found choice reachable first_level reroute_on step_from step_on trip_on passed fitted fitted_in sheet_of sheet_with night_sheet tables_of times packet read and_then words.value
all_cases = refl
