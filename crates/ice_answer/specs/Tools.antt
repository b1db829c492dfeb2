-- What the fields of a tool stand for.
use Rattle.ice_answer.specs.Values.{mode_of}
use Rattle.ice_answer.specs.Kept.{ToolState}
use Rattle.ice_answer.specs.declared.tool.Tool.TheInside.{Inside}

abbrev pub tool_of : Inside → ToolState
tool_of tool = record {
  mode = mode_of tool.mode;
  plan = tool.plan;
  run_to = tool.run_to;
  parameters = tool.params;
  dropped = tool.dropped;
  stop_asked = tool.stop_asked;
}
