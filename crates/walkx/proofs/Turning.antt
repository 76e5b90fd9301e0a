-- What a turn comes to, and a task in a block.
use Rattle.std.proofs.Common.{◌≡◌, ℕ, ◌-◌, ◌%◌, ◌==◌, ◌&&◌, Bool, true, false, if◌then◌else◌}
use Rattle.std.proofs.Common.{nat_lt, Option, Some, None, ap, refl, sym, subst, ◌∙◌}
use Rattle.pram_words.specs.Words.{number_of}
use Rattle.pram_words.specs.declared.words.Word.TheVariants.{Node}
use Rattle.walkx.specs.declared.operation.Op.TheVariants.{Swap}
use Rattle.pram_words.specs.declared.layout.Form.{Form}
use Rattle.pram_words.specs.declared.layout.Form.TheVariants.{Compact, Wide}
use Rattle.walk_memory.specs.declared.memo.Memo.{Memo}
use Rattle.walkx.specs.declared.turns.Turned.{Turned}
use Rattle.walkx.specs.Driving.{Standing}
use Rattle.walk_memory.specs.Inner.Posts.{PostData}
use Rattle.walkx.specs.Inner.Posts.{then_marks, then_next, then_raises}
use Rattle.walk_memory.specs.Memory.{at_start}
use Rattle.walkx.specs.Parts.{does_compact, does_wide}
use Rattle.walkx.specs.Passes.{task_in}
use Rattle.walkx.specs.Rests.{entered, has_worked, part_rest}
use Rattle.walkx.specs.Scripts.{Script, asks, ends}
use Rattle.walkx.specs.Walk.{Then, bounded_mark, jumps, part_script}
use Rattle.walk_memory.specs.Blocks.{IsWide, last_phase}
use Rattle.walkx.proofs.Forms.{form_compact}
use Rattle.walkx.proofs.Marks.{jumps_wide}
use Rattle.walkx.proofs.WidePasses.{in_compact}

-- the task of a leaf of the compact form
pub part_first : (at : PostData) → at.rank ≡ 0 →
    part_script at.job at.layout at.node at.phase 0 at_start ≡ part_rest at at_start
part_first at first = rw first refl

pub compact_does : (at : PostData) → at.layout.form ≡ Compact →
    part_rest at at_start ≡ does_compact at (then_marks at at.phase)
unfolding part_script
compact_does at is = in_compact at at_start (then_next at) at.layout.form is
    ∙ ap (does_compact at)
    (form_compact at.layout.form (then_marks at at.phase) (ends (has_worked at at_start)) is)

-- the mark of a node, the root being raised over the step's end first or not
pub jumps_is : (at : PostData) (reach : ℕ) (found : Bool) → IsWide at.layout.form →
    found ≡ ((at.node == 1) && ((at.phase % 3 == 1) && nat_lt (last_phase at.phase) reach)) →
    jumps at.layout at.node at.phase reach ≡ found
jumps_is at reach found wide is = jumps_wide at.layout at.node at.phase reach wide ∙ sym is

abbrev jumps_if : PostData → ℕ → Bool → Script Then
jumps_if at reach first =
    let marked = then_marks at (bounded_mark at.node at.phase reach) in
    if first
    then asks (Swap (number_of at.layout (Node at.node)) (at.phase - 1) reach) (λ found. marked)
    else marked

pub raises_first : (at : PostData) (reach : ℕ) → jumps at.layout at.node at.phase reach ≡ true →
    then_raises at reach ≡ asks (Swap (number_of at.layout (Node at.node)) (at.phase - 1) reach)
    (λ found. then_marks at (bounded_mark at.node at.phase reach))
raises_first at reach is = ap (jumps_if at reach) is

pub raises_none : (at : PostData) (reach : ℕ) → jumps at.layout at.node at.phase reach ≡ false →
    then_raises at reach ≡ then_marks at (bounded_mark at.node at.phase reach)
raises_none at reach is = ap (jumps_if at reach) is

-- a task in a block
pub wide_does : (at : PostData) (memo : Memo) (late : Script Then) → IsWide at.layout.form →
    part_rest at memo ≡ does_wide at memo late (λ m. ends (has_worked at m))
unfolding part_script task_in
wide_does at memo late wide = by at.layout.form refl wide
  where
    by : (f : Form) → at.layout.form ≡ f → IsWide f →
        part_rest at memo ≡ does_wide at memo late (λ m. ends (has_worked at m))
    by Compact e w = absurd w
    by (Wide g) e w = rw e refl

pub wide_is : (f : Form) (g : ℕ) → f ≡ Wide g → IsWide f
wide_is f g is = rw is tt

-- the same place in a script
pub moved : {D : Type 0} (stands : Standing D) (from : D × Script Then) (d : D)
    (s u : Script Then) → s ≡ u → stands from d (Some s) → stands from d (Some u)
moved stands from d s u is here = subst (λ (x : Script Then). stands from d (Some x)) is here

pub comes_to : {D : Type 0} (stands : Standing D) (from : D × Script Then) (d : D)
    (s u : Option (Script Then)) → s ≡ u → stands from d s → stands from d u
comes_to stands from d s u is here = subst (stands from d) is here

-- the task of the processor is next
pub task_next : {D : Type 0} (stands : Standing D) (from : D × Script Then) (d : D)
    (at : PostData) (turned : Option Turned) → turned ≡ None →
    stands from d (Some (entered at turned)) → stands from d (Some (part_rest at at_start))
task_next stands from d at turned none here =
    subst (λ (t : Option Turned). stands from d (Some (entered at t))) none here
