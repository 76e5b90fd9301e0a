use Rattle.std.proofs.Common.{[], ◌∷◌, Some}
use Rattle.walk_memory.specs.Lagging.{load_taken}
use Rattle.walk_memory.specs.Lanes.{lane}
use Rattle.walkx.proofs.Landing.{one_left, one_next, others_next, others_played}
use Rattle.walkx.proofs.Passing.{passed}
use Rattle.walkx.proofs.lagging.land_load.Goals as goal

pub land_register-requires-clause-next : goal.land_register-requires-clause-next
land_register-requires-clause-next g c =
    let at = c.args.leaf.now in
    let taken = load_taken (lane c.args.block.now c.args.taking.lane) c.args.taking.register
    c.args.taking.value in
    let tells = Some c.args.taking.register in
    let stands = g.S.Steps.stands at in
    one_next stands at taken tells 0 (1 ∷ 2 ∷ 3 ∷ []) _ c.requires.next

pub land_register-requires-2-clause-next : goal.land_register-requires-2-clause-next
land_register-requires-2-clause-next g c =
    let at = c.args.leaf.now in
    let taken = load_taken (lane c.args.block.now c.args.taking.lane) c.args.taking.register
    c.args.taking.value in
    let tells = Some c.args.taking.register in
    let stands = g.S.Steps.stands at in
    let next_1 = others_next stands at taken tells 0 (1 ∷ 2 ∷ 3 ∷ []) _ _ _
    c.in_ok-land_register.ensures c.requires.next in
    one_next stands at taken tells 1 (2 ∷ 3 ∷ []) _ next_1

pub land_register-requires-3-clause-next : goal.land_register-requires-3-clause-next
land_register-requires-3-clause-next g c =
    let at = c.args.leaf.now in
    let taken = load_taken (lane c.args.block.now c.args.taking.lane) c.args.taking.register
    c.args.taking.value in
    let tells = Some c.args.taking.register in
    let stands = g.S.Steps.stands at in
    let next_1 = others_next stands at taken tells 0 (1 ∷ 2 ∷ 3 ∷ []) _ _ _
    c.in_ok-land_register.ensures c.requires.next in
    let next_2 = others_next stands at taken tells 1 (2 ∷ 3 ∷ []) _ _ _
    c.in_ok-land_register-2.ensures next_1 in
    one_next stands at taken tells 2 (3 ∷ []) _ next_2

pub land_register-requires-4-clause-next : goal.land_register-requires-4-clause-next
land_register-requires-4-clause-next g c =
    let at = c.args.leaf.now in
    let taken = load_taken (lane c.args.block.now c.args.taking.lane) c.args.taking.register
    c.args.taking.value in
    let tells = Some c.args.taking.register in
    let stands = g.S.Steps.stands at in
    let next_1 = others_next stands at taken tells 0 (1 ∷ 2 ∷ 3 ∷ []) _ _ _
    c.in_ok-land_register.ensures c.requires.next in
    let next_2 = others_next stands at taken tells 1 (2 ∷ 3 ∷ []) _ _ _
    c.in_ok-land_register-2.ensures next_1 in
    let next_3 = others_next stands at taken tells 2 (3 ∷ []) _ _ _
    c.in_ok-land_register-3.ensures next_2 in
    one_next stands at taken tells 3 ([]) _ next_3

pub land_counter-requires-clause-next : goal.land_counter-requires-clause-next
land_counter-requires-clause-next g c =
    let at = c.args.leaf.now in
    let taken = load_taken (lane c.args.block.now c.args.taking.lane) c.args.taking.register
    c.args.taking.value in
    let tells = Some c.args.taking.register in
    let stands = g.S.Steps.stands at in
    let next_1 = others_next stands at taken tells 0 (1 ∷ 2 ∷ 3 ∷ []) _ _ _
    c.in_ok-land_register.ensures c.requires.next in
    let next_2 = others_next stands at taken tells 1 (2 ∷ 3 ∷ []) _ _ _
    c.in_ok-land_register-2.ensures next_1 in
    let next_3 = others_next stands at taken tells 2 (3 ∷ []) _ _ _
    c.in_ok-land_register-3.ensures next_2 in
    let next_4 = others_next stands at taken tells 3 ([]) _ _ _
    c.in_ok-land_register-4.ensures next_3 in
    next_4

pub returns-in_err-land_register : goal.returns-in_err-land_register
returns-in_err-land_register g c =
    let at = c.args.leaf.now in
    let taken = load_taken (lane c.args.block.now c.args.taking.lane) c.args.taking.register
    c.args.taking.value in
    let tells = Some c.args.taking.register in
    let stands = g.S.Steps.stands at in
    rw (passed c.from_residual.result _
    c.from_residual.ensures.1)
    (one_left stands at taken tells 0 (1 ∷ 2 ∷ 3 ∷ []) _ _ _
    c.in_err-land_register.ensures)

pub returns-in_err-land_register-2 : goal.returns-in_err-land_register-2
returns-in_err-land_register-2 g c =
    let at = c.args.leaf.now in
    let taken = load_taken (lane c.args.block.now c.args.taking.lane) c.args.taking.register
    c.args.taking.value in
    let tells = Some c.args.taking.register in
    let stands = g.S.Steps.stands at in
    rw (passed c.from_residual-in_err-land_register-2.result _
    c.from_residual-in_err-land_register-2.ensures.1)
    (others_played stands at taken tells 0 (1 ∷ 2 ∷ 3 ∷ []) _ _ _
    c.in_ok-land_register.ensures _ _ (one_left stands at taken tells 1 (2 ∷ 3 ∷ []) _ _ _
    c.in_err-land_register-2.ensures))

pub returns-in_err-land_register-3 : goal.returns-in_err-land_register-3
returns-in_err-land_register-3 g c =
    let at = c.args.leaf.now in
    let taken = load_taken (lane c.args.block.now c.args.taking.lane) c.args.taking.register
    c.args.taking.value in
    let tells = Some c.args.taking.register in
    let stands = g.S.Steps.stands at in
    rw (passed c.from_residual-in_err-land_register-3.result _
    c.from_residual-in_err-land_register-3.ensures.1)
    (others_played stands at taken tells 0 (1 ∷ 2 ∷ 3 ∷ []) _ _ _
    c.in_ok-land_register.ensures _ _ (others_played stands at taken tells 1 (2 ∷ 3 ∷ []) _ _ _
    c.in_ok-land_register-2.ensures _ _ (one_left stands at taken tells 2 (3 ∷ []) _ _ _
    c.in_err-land_register-3.ensures)))

pub returns-in_err-land_register-4 : goal.returns-in_err-land_register-4
returns-in_err-land_register-4 g c =
    let at = c.args.leaf.now in
    let taken = load_taken (lane c.args.block.now c.args.taking.lane) c.args.taking.register
    c.args.taking.value in
    let tells = Some c.args.taking.register in
    let stands = g.S.Steps.stands at in
    rw (passed c.from_residual-in_err-land_register-4.result _
    c.from_residual-in_err-land_register-4.ensures.1)
    (others_played stands at taken tells 0 (1 ∷ 2 ∷ 3 ∷ []) _ _ _
    c.in_ok-land_register.ensures _ _ (others_played stands at taken tells 1 (2 ∷ 3 ∷ []) _ _ _
    c.in_ok-land_register-2.ensures _ _ (others_played stands at taken tells 2 (3 ∷ []) _ _ _
    c.in_ok-land_register-3.ensures _ _ (one_left stands at taken tells 3 ([]) _ _ _
    c.in_err-land_register-4.ensures))))

pub returns : goal.returns
returns g c =
    let at = c.args.leaf.now in
    let taken = load_taken (lane c.args.block.now c.args.taking.lane) c.args.taking.register
    c.args.taking.value in
    let tells = Some c.args.taking.register in
    let stands = g.S.Steps.stands at in
    others_played stands at taken tells 0 (1 ∷ 2 ∷ 3 ∷ []) _ _ _
    c.in_ok-land_register.ensures _ _ (others_played stands at taken tells 1 (2 ∷ 3 ∷ []) _ _ _
    c.in_ok-land_register-2.ensures _ _ (others_played stands at taken tells 2 (3 ∷ []) _ _ _
    c.in_ok-land_register-3.ensures _ _ (others_played stands at taken tells 3 ([]) _ _ _
    c.in_ok-land_register-4.ensures _ _ c.land_counter.ensures)))
