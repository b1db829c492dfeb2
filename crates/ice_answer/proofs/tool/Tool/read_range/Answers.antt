use Rattle.std.proofs.Common.{◌≡◌, ◌+◌, ◌||◌, nat_lt, Bool, false, ap, ◌∙◌, arith}
use Rattle.std.proofs.lemmas.Bool.{le-ltb}
use Rattle.part_spec.specs.Chip.{chip_of}
use Rattle.line_spec.specs.Messages.{Response, memory, memory_limit, refused, response_body}
use Rattle.line_spec.specs.declared.refusal.Refusal.TheVariants.{IllegalMemoryRange}
use Rattle.debug_spec.specs.Debugger.{replied}
use Rattle.debug_spec.specs.MemoryTypes.{memory_size, byte_in, bytes_from}
use Rattle.ice_answer.specs.Values.{memory_of}
use Rattle.ice_answer.specs.Kept.{ToolState}
use Rattle.ice_answer.specs.Accesses.{reads}
use Rattle.ice_answer.proofs.Doing.{same_does, does-send, no_if}
use Rattle.ice_answer.proofs.tool.Tool.read_range.Goals as goal

neither : (a b : Bool) → a ≡ false → b ≡ false → (a || b) ≡ false
neither a b g h = cc

pub returns : goal.returns
returns c = λ comparators.
    let holds = memory_of c.args.memory in
    same_does (λ part. replied c.args.frame (memory c.as_slice.result.now)) (reads c.args.frame holds c.args.count c.args.address) _ _
    (λ part before s e.
    let size : memory_size (chip_of c.part.result) holds ≡ memory_size (chip_of part) holds =
    ap (λ q. memory_size (chip_of q) holds) (c.part.ensures ∙ ap (λ (k : ToolState). k.plan.part) (c.self.view_is ∙ e.tool)) in
    let few : nat_lt memory_limit c.args.count ≡ false = le-ltb memory_limit c.args.count (omega (arith, c.if-count.false)) in
    let within : nat_lt (memory_size (chip_of part) holds) (c.args.address + c.args.count) ≡ false =
    le-ltb (memory_size (chip_of part) holds) (c.args.address + c.args.count)
    (omega (
      arith,
      c.if-from.false,
      c.from.ensures,
      c.from-else-count.ensures,
      c.from-else-count-2.ensures,
      c.memory_size.ensures.size,
      size,
    )) in
    ap (λ (r : Response). replied c.args.frame r s)
    (ap memory (c.as_slice.ensures.value ∙ c.bytes_from-bytes.ensures.bytes part s e.tool e.core) ∙
    no_if (nat_lt memory_limit c.args.count || nat_lt (memory_size (chip_of part) holds) (c.args.address + c.args.count))
    (refused IllegalMemoryRange)
    (memory (bytes_from (byte_in (chip_of part) holds s) c.args.address c.args.count))
    (neither (nat_lt memory_limit c.args.count) (nat_lt (memory_size (chip_of part) holds) (c.args.address + c.args.count)) few within)))
    (does-send c.args.frame (response_body (memory c.as_slice.result.now)) c.args.out.now.items c.reply.new.out.items c.args.self.now
    c.args.core.now
    comparators c.reply.ensures.sends)
