-- `header::writing::put_header` meets its contract: the words are the header's with the checksum as zero, and with it their bytes are the header's.
use mathlib.Core.Path.{sym, ◌∙◌}
use Prim.Native.Nat.{◌+◌, ◌≤◌}
use lib.Seq.{length-take-le}
use native.Mathlib.Omega.{arith}
use lib.ListN.{length, get_or, set, take, length-set}
use Rattle.std.proofs.lemmas.List.{get_or-take}
use Rattle.frame.proofs.Rows.{words_fit}
use Rattle.header.proofs.Written.{flag_small, sum_fits, third_is, third_word, words_there, taken, taken_length, sum_taken, bytes_are}
use Rattle.header.proofs.writing.put_header.Goals as goal

pub slice_bounds-words-end : goal.slice_bounds-words-end
slice_bounds-words-end c =
    let w = c.header_words-words in
    words_there c.args.fields w.result w.ensures c.count_of-count.result c.count_of-count.ensures

pub slice_bounds-sum_of-end : goal.slice_bounds-sum_of-end
slice_bounds-sum_of-end c =
    let w = c.header_words-words in
    sym (taken_length c.args.fields w.result w.ensures c.count_of-count.result c.count_of-count.ensures)

pub sum_of-requires : goal.sum_of-requires
sum_of-requires c =
    let f = c.args.fields in
    let n = words_fit f.has_proxy in
    let w = c.header_words-words in
    let k = c.count_of-count in
    let l = taken_length f w.result w.ensures k.result k.ensures in
    let t = get_or-take k.result w.result 2 0 (omega (arith, n.0, k.ensures)) in
    (omega (arith, n.0, k.ensures), omega (arith, n.1, k.ensures), omega (arith, t, third_word f w.result w.ensures, third_is f))

pub overflow_add-words : goal.overflow_add-words
overflow_add-words c =
    let f = c.args.fields in
    let w = c.header_words-words in
    let k = c.count_of-count in
    let t = take k.result w.result in
    let s = sum_fits (λ i. get_or t i 0) (length t) in
    omega (arith, third_word f w.result w.ensures, third_is f, flag_small f.has_proxy, c.sum_of.ensures, c.requires.0)

pub returns : goal.returns
returns c =
    let a = c.args in
    let w = c.header_words-words in
    let k = c.count_of-count in
    let s = c.sum_of in
    let n = words_fit a.fields.has_proxy in
    let l = length-set w.result 2 (get_or w.result 2 0 + s.result) in
    c.put_words.ensures
    ∙ taken (set w.result 2 (get_or w.result 2 0 + s.result)) a.room.now k.result (omega (arith, l, words_there a.fields w.result w.ensures k.result k.ensures)) (omega (arith, k.ensures, c.requires.1))
    ∙ bytes_are a.fields w.result w.ensures s.result k.result a.room.now
    (s.ensures ∙ sum_taken a.fields w.result w.ensures k.result k.ensures) k.ensures

pub slice_bounds-words-end-2 : goal.slice_bounds-words-end-2
slice_bounds-words-end-2 c =
    let w = c.header_words-words in
    omega (arith, length-set w.result 2 (get_or w.result 2 0 + c.sum_of.result), words_there c.args.fields w.result w.ensures c.count_of-count.result c.count_of-count.ensures)

pub slice_bounds-put_words-end : goal.slice_bounds-put_words-end
slice_bounds-put_words-end c =
    let w = c.header_words-words in
    let t = set w.result 2 (get_or w.result 2 0 + c.sum_of.result) in
    let l : c.count_of-count.result ≤ length t = omega (arith, length-set w.result 2 (get_or w.result 2 0 + c.sum_of.result), words_there c.args.fields w.result w.ensures c.count_of-count.result c.count_of-count.ensures) in
    sym (length-take-le c.count_of-count.result t l)
