-- A code for tasks, by which they are told apart: what lets a task stand in what contracts see of a
-- seat.
use Rattle.std.specs.Prelude.{◌≡◌, ℕ, zero, suc, Bool, true, if◌then◌else◌, List, [], ◌∷◌, refl}
use native.Mathlib.Omega.{arith}
use Rattle.std.proofs.Common.{ap, ap₂, ◌∙◌}
use Rattle.std.specs.Str.{bytes_eq}
use Rattle.std.specs.Coded.{Coded, code_by, coded×, coded_ℕ, coded_bool, coded_list}
use Rattle.pram_job.specs.Job.{JobData}
use Rattle.pram_job.specs.declared.instr.Instr.{Instr}
use Rattle.pram_job.specs.declared.instr.Instr.TheVariants.{Halt}
use Rattle.pram_job.specs.declared.instr.Operand.{Operand}
use Rattle.pram_job.specs.declared.instr.Operand.TheVariants.{Register, Number}
use Rattle.pram_job.specs.declared.instr.Operands.{Operands}
use Rattle.pram_job.specs.declared.instr.Operands.TheVariants.{Bare, Target, TargetNumber}
use Rattle.pram_job.specs.declared.instr.Operands.TheVariants.{TargetPlace, TargetTwo, PlaceValue}
use Rattle.pram_job.specs.declared.instr.Operands.TheVariants.{RegisterIndex, Index}
use Rattle.pram_job.specs.Instructions as Instructions
use Rattle.pram_job.specs.declared.instr.Place.{Place}
use Rattle.pram_job.specs.declared.instr.Place.TheVariants.{Cell, Named}
use Rattle.pram_job.specs.Instructions.{bare, only_target, target_number, target_place}
use Rattle.pram_job.specs.Instructions.{target_two, place_value, register_index, only_index}
use Rattle.pram_job.specs.Instructions.{row_of, table}
use Rattle.text_lines.specs.Lines.{Word}
use Rattle.pram_job.specs.declared.instr.Rule.{Rule}
use Rattle.pram_job.specs.declared.instr.Rule.TheVariants.{Common, Priority, Crew}
use Rattle.pram_words.specs.declared.layout.Form.{Form}
use Rattle.pram_words.specs.declared.layout.Form.TheVariants.{Compact, Wide}
use Rattle.pram_words.specs.Words.{LayoutData, layout_data}
use Rattle.pram_board.specs.declared.task.Task.{Task}

-- ---- rules

rule_number : Rule → ℕ
rule_number Common = 0
rule_number Priority = 1
rule_number Crew = 2

rule_from : ℕ → Rule
rule_from zero = Common
rule_from (suc zero) = Priority
rule_from (suc (suc more)) = Crew

rule_again : (rule : Rule) → rule_from (rule_number rule) ≡ rule
unfolding rule_number rule_from
rule_again Common = refl
rule_again Priority = refl
rule_again Crew = refl

-- ---- operands and places: a number for the kind, and what there is of it

operand_parts : Operand → ℕ × ℕ
operand_parts (Register register) = (0, register)
operand_parts (Number number) = (1, number)

operand_by : ℕ → ℕ → Operand
operand_by zero number = Register number
operand_by (suc more) number = Number number

operand_from : ℕ × ℕ → Operand
operand_from parts = operand_by parts.0 parts.1

operand_again : (operand : Operand) → operand_from (operand_parts operand) ≡ operand
unfolding operand_parts operand_by operand_from
operand_again (Register register) = refl
operand_again (Number number) = refl

abbrev PlaceParts : Type 0
PlaceParts = ℕ × ((ℕ × ℕ) × (ℕ × ℕ))

place_parts : Place → PlaceParts
place_parts (Cell index) = (0, ((0, 0), operand_parts index))
place_parts (Named array index) = (1, ((array.base, array.len), operand_parts index))

place_by : ℕ → ℕ × ℕ → Operand → Place
place_by zero array index = Cell index
place_by (suc more) array index = Named (record { base = array.0; len = array.1 }) index

place_from : PlaceParts → Place
place_from parts = place_by parts.0 parts.1.0 (operand_from parts.1.1)

place_again : (place : Place) → place_from (place_parts place) ≡ place
unfolding place_parts place_by place_from
place_again (Cell index) = ap (λ index. Cell index) (operand_again index)
place_again (Named array index) = ap (λ index. Named array index) (operand_again index)

-- ---- instructions: the number of the row in the table, and the operands

-- two numbers, an operand and a place, of which no row has all
abbrev Parts : Type 0
Parts = (ℕ × ℕ) × ((ℕ × ℕ) × PlaceParts)

no_operand : Operand
no_operand = Register 0

no_place : Place
no_place = Cell no_operand

split : Operands → (ℕ × ℕ) × (Operand × Place)
split Bare = ((0, 0), (no_operand, no_place))
split (Target target) = ((target, 0), (no_operand, no_place))
split (TargetNumber target number) = ((target, number), (no_operand, no_place))
split (TargetPlace target place) = ((target, 0), (no_operand, place))
split (TargetTwo target first second) = ((target, first), (second, no_place))
split (PlaceValue place value) = ((0, 0), (value, place))
split (RegisterIndex register index) = ((register, index), (no_operand, no_place))
split (Index index) = ((index, 0), (no_operand, no_place))

parts_by : (ℕ × ℕ) × (Operand × Place) → Parts
parts_by (numbers, (operand, place)) = (numbers, (operand_parts operand, place_parts place))

made_by : Instructions.Form → ℕ → ℕ → Operand → Place → Instr
made_by (bare instr) first second operand place = instr
made_by (only_target make) first second operand place = make first
made_by (target_number make) first second operand place = make first second
made_by (target_place make) first second operand place = make first place
made_by (target_two make) first second operand place = make first second operand
made_by (place_value make) first second operand place = make place operand
made_by (register_index make) first second operand place = make first second
made_by (only_index make) first second operand place = make first

-- the first row of this name
row_number : List (Word × Instructions.Form) → Word → ℕ
row_number [] name = 0
row_number (row ∷ rows) name = if bytes_eq name row.0 then 0 else suc (row_number rows name)

made_in : List (Word × Instructions.Form) → ℕ → ℕ → ℕ → Operand → Place → Instr
made_in [] number first second operand place = Halt
made_in (row ∷ rows) zero first second operand place = made_by row.1 first second operand place
made_in (row ∷ rows) (suc number) first second operand place =
    made_in rows number first second operand place

parts_of : Instr → ℕ × Parts
parts_of instr = (row_number (table true) (row_of instr).0, parts_by (split (row_of instr).1))

instr_from : ℕ × Parts → Instr
instr_from parts = made_in (table true) parts.0 parts.1.0.0 parts.1.0.1
    (operand_from parts.1.1.0) (place_from parts.1.1.1)

-- what its row makes of its operands
made_again : (instr : Instr) → made_in (table true) (row_number (table true) (row_of instr).0)
    (split (row_of instr).1).0.0 (split (row_of instr).1).0.1
    (split (row_of instr).1).1.0 (split (row_of instr).1).1.1 ≡ instr
unfolding split made_by row_number made_in
made_again instr = grind arith

instr_again : (instr : Instr) → instr_from (parts_of instr) ≡ instr
unfolding parts_of instr_from parts_by
instr_again instr =
    let own = split (row_of instr).1 in
    ap₂ (λ operand place. made_in (table true) (row_number (table true) (row_of instr).0)
    own.0.0 own.0.1 operand place) (operand_again own.1.0) (place_again own.1.1)
    ∙ made_again instr

-- ---- forms

form_number : Form → ℕ
form_number Compact = 0
form_number (Wide grain) = suc grain

form_from : ℕ → Form
form_from zero = Compact
form_from (suc grain) = Wide grain

form_again : (form : Form) → form_from (form_number form) ≡ form
unfolding form_number form_from
form_again Compact = refl
form_again (Wide grain) = refl

-- ---- tasks

pub coded_rule : Coded Rule
coded_rule = code_by ℕ coded_ℕ rule_number rule_from rule_again

coded_two : Coded (ℕ × ℕ)
coded_two = coded× coded_ℕ coded_ℕ

coded_parts : Coded Parts
coded_parts =
    coded× coded_two (coded× coded_two (coded× coded_ℕ (coded× coded_two coded_two)))

pub coded_instr : Coded Instr
coded_instr = code_by (ℕ × Parts) (coded× coded_ℕ coded_parts) parts_of instr_from instr_again

pub coded_form : Coded Form
coded_form = code_by ℕ coded_ℕ form_number form_from form_again

abbrev pub JobParts : Type 0
JobParts = Rule × (ℕ × (ℕ × (ℕ × (List ℕ × List Instr))))

abbrev pub job_parts : JobData → JobParts
job_parts job = (job.rule, (job.cells, (job.procs, (job.steps, (job.init, job.code)))))

abbrev pub job_from : JobParts → JobData
job_from (rule, (cells, (procs, (steps, (init, code))))) =
    record { rule = rule; cells = cells; procs = procs; steps = steps; init = init; code = code }

abbrev pub coded_job : Coded JobData
coded_job =
    code_by JobParts
    (coded× coded_rule
    (coded× coded_ℕ
    (coded× coded_ℕ (coded× coded_ℕ (coded× (coded_list coded_ℕ) (coded_list coded_instr))))))
    job_parts job_from (λ _. refl)

abbrev pub LayoutParts : Type 0
LayoutParts = Form × (ℕ × (ℕ × (ℕ × (ℕ × Bool))))

abbrev pub layout_parts : LayoutData → LayoutParts
layout_parts layout =
    (layout.form, (layout.leaves, (layout.cells, (layout.procs, (layout.workers, layout.claims)))))

abbrev pub layout_from : LayoutParts → LayoutData
layout_from (form, (leaves, (cells, (procs, (workers, claims))))) =
    layout_data form leaves cells procs workers claims

abbrev pub coded_layout : Coded LayoutData
coded_layout =
    code_by LayoutParts
    (coded× coded_form
    (coded× coded_ℕ (coded× coded_ℕ (coded× coded_ℕ (coded× coded_ℕ coded_bool)))))
    layout_parts layout_from (λ _. refl)

abbrev pub coded_task : Coded Task
coded_task =
    code_by (JobData × LayoutData) (coded× coded_job coded_layout)
    (λ task. (task.job, task.layout)) (λ parts. record { job = parts.0; layout = parts.1 })
    (λ _. refl)
