use Rattle.script_lines.proofs.Lines.+hex.Given as goal

abbrev pub decreases-hex : goal.decreases-hex
decreases-hex l = l.k
