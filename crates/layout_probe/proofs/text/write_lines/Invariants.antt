use Rattle.std.proofs.Common.{◌≡◌, ◌++◌, take, string_bytes}
use Rattle.lists.proofs.Words.{flat_map}
use Rattle.layout_probe.specs.ProbeText.{near_line}
use Rattle.layout_probe.proofs.text.write_lines.Given as goal

abbrev pub invariant-loop-metal : goal.invariant-loop-metal
invariant-loop-metal l = string_bytes l.text ≡ string_bytes l.fn.text ++ flat_map near_line (take l.metal-index l.metals)
