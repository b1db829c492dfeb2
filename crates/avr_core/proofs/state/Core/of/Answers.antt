use Rattle.std.proofs.Common.{replicate, false, refl, ap, arith}
use Rattle.std.proofs.lemmas.List.Elements.{All-replicate}
use Rattle.part_spec.specs.Chip.{chip_of}
use Rattle.part_spec.proofs.Numbers.{words-large}
use Rattle.avr_spec.specs.Machine.{IsByte}
use Rattle.avr_spec.specs.Kept.{KeptIo}
use Rattle.avr_core.proofs.Sram.{sram-start}
use Rattle.avr_core.proofs.state.Core.of.Goals as goal

pub invariant_of-result : goal.invariant_of-result
invariant_of-result c = record {
  pc_in_flash = omega (arith, words-large c.args.part);
  registers_length = refl;
  registers_bytes = All-replicate IsByte 32 0 (omega arith);
  same_part = ap (λ (k : KeptIo). k.part) c.in_ok-of.ensures;
  sram_length = refl;
  sram_all_bytes = All-replicate IsByte 2048 0 (omega arith);
  is_mask = c.mask.ensures.mask;
  small_mask = c.mask.ensures.small;
  is_end = c.sram_end.ensures;
}

pub returns : goal.returns
returns c =
    let q = c.args.part in λ i. record {
      part = chip_of q;
      pc = 0;
      registers = replicate 32 0;
      io = c.in_ok-of.ensures i;
      sram = sram-start q i;
      steps = 0;
      hold = false;
    }
