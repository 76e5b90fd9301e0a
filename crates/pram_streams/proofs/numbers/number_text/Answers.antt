use Rattle.std.proofs.Common.{◌∙◌}
use Rattle.pram_streams.proofs.Plain.{decimal-unquoted, plain}
use Rattle.pram_streams.proofs.numbers.number_text.Goals as goal

pub returns : goal.returns
returns c = record {
  text = c.as_bytes.ensures.value ∙ c.format.ensures.text;
  plain = rw (c.as_bytes.ensures.value, c.format.ensures.text)
      (plain _ (decimal-unquoted c.args.number c.ranges.number.fits));
}
