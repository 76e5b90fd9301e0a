use Rattle.std.proofs.Common.{◌≡◌, ◌∙◌, ◌<◌, ◌∷◌, ap, arith, subst, sym, false}
use Rattle.std.proofs.Common.{◌+◌, ◌-◌, IsCharBoundary, get_or, length, take, drop}
use Rattle.std.proofs.lemmas.Str.{IsCharBoundary-after_ascii, IsCharBoundary-before_ascii}
use Rattle.command_data.specs.CellLists.{cut, part_len}
use Rattle.command_data.proofs.Cells.{parted, whole}
use Rattle.command_data.proofs.cell_list.first_part.Goals as goal

-- no comma parts it
pub returns-then-end-text : goal.returns-then-end-text
returns-then-end-text c =
    let text = c.args.text.now in
    let e : c.part_len-end.result ≡ part_len false text =
    c.part_len-end.ensures ∙ ap (λ bytes. part_len false bytes) c.as_bytes.ensures.value in
    whole false text (omega (arith, c.if-end-text.true, e))

pub range-requires-clause-end_boundary : goal.range-requires-clause-end_boundary
range-requires-clause-end_boundary c =
    let text = c.args.text.now in
    let e : c.part_len-end.result ≡ part_len false text =
    c.part_len-end.ensures ∙ ap (λ bytes. part_len false bytes) c.as_bytes.ensures.value in
    let lt : part_len false text < length text = omega (arith, c.if-end-text.false, e) in
    let comma : get_or text (part_len false text) 0 ≡ 44 = (parted false text lt).0 in
    subst (λ n. IsCharBoundary text n) (sym e)
    (IsCharBoundary-before_ascii text (part_len false text) lt (omega (arith, comma)))

pub range_from-requires : goal.range_from-requires
range_from-requires c = λ above.
    let text = c.args.text.now in
    let e : c.part_len-end.result ≡ part_len false text =
    c.part_len-end.ensures ∙ ap (λ bytes. part_len false bytes) c.as_bytes.ensures.value in
    let lt : part_len false text < length text = omega (arith, c.if-end-text.false, e) in
    let comma : get_or text (part_len false text) 0 ≡ 44 = (parted false text lt).0 in
    subst (λ n. IsCharBoundary text (n + 1)) (sym e)
    (IsCharBoundary-after_ascii text (part_len false text) c.utf8.text lt (omega (arith, comma)))

pub returns : goal.returns
returns c =
    let text = c.args.text.now in
    let e : c.part_len-end.result ≡ part_len false text =
    c.part_len-end.ensures ∙ ap (λ bytes. part_len false bytes) c.as_bytes.ensures.value in
    let lt : part_len false text < length text = omega (arith, c.if-end-text.false, e) in
    let all : c.part_len-end.result - 0 ≡ c.part_len-end.result = omega arith in
    (parted false text lt).1
    ∙ ap (λ n. take n text ∷ cut false (drop (n + 1) text)) (sym e)
    ∙ ap (λ part. part ∷ cut false (drop (c.part_len-end.result + 1) text))
    (sym (c.range.ensures.value ∙ ap (λ n. take n text) all))
    ∙ ap (λ rest. c.range.result.now ∷ cut false rest) (sym c.range_from.ensures.value)
