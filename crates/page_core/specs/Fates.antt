-- What is told of what became of the processors.
use Rattle.std.specs.Prelude.{◌≡◌, ◌⊎◌, ℕ, List, [], Option, Some, None}
use Rattle.pram_text.specs.InstructionLines.{line_of}
use Rattle.pram_rows.specs.declared.fates.End.{End}
use Rattle.pram_rows.specs.declared.fates.End.TheVariants.{Running, Stopped}
use Rattle.pram_rows.specs.declared.fates.Fates.{Fates}
use Rattle.pram_rows.specs.declared.fates.Lost.{Lost}
use Rattle.pram_rows.specs.Fates.{AreFates}
use Rattle.page_core.specs.declared.codes.TheConstants.{DONE}
use Rattle.page_core.specs.declared.fates.EndRow.{EndRow}
use Rattle.page_core.specs.declared.fates.FatesTold.{FatesTold}
use Rattle.page_core.specs.declared.fates.LostRow.{LostRow}
use Rattle.page_core.specs.declared.text.Refusal.{Refusal}
use Rattle.page_core.specs.Texts.{IsRefused, OfJob, coded, refused_as}

-- how they are at the end, by the lines of the text: none, so many run, or all have stopped
abbrev pub end_row : List ℕ → Option End → EndRow
end_row text None = record { line = 0; kind = 0; count = 0; first = 0; step = 0 }
end_row text (Some (Running count first index)) =
    record { line = line_of text index; kind = 1; count = count; first = first; step = 0 }
end_row text (Some (Stopped step)) =
    record { line = 0; kind = 2; count = 0; first = 0; step = step }

-- who first named a cell that there is not
abbrev pub lost_row : List ℕ → Option Lost → LostRow
lost_row text None = record { line = 0; step = 0; processor = 0 }
lost_row text (Some lost) =
    record { line = line_of text lost.index; step = lost.step; processor = lost.processor }

abbrev pub fates_row : List ℕ → Fates → FatesTold
fates_row text fates = record {
  status = coded DONE;
  end = end_row text fates.end;
  lost = lost_row text fates.lost;
}

abbrev pub no_fates : Refusal → FatesTold
no_fates refusal = record {
  status = refused_as refusal;
  end = end_row [] None;
  lost = lost_row [] None;
}

-- what becomes of the processors in all steps of the text's job, or why there is none
abbrev pub AreFatesTold : List ℕ → FatesTold → Type 0
AreFatesTold text told =
    ((fates : Fates) × OfJob text (λ job. AreFates job job.steps fates)
    × (told ≡ fates_row text fates))
    ⊎ ((refusal : Refusal) × IsRefused text refusal × (told ≡ no_fates refusal))
