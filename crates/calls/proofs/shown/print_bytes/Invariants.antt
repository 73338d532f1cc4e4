-- So many bytes are shown after the comma.
use Rattle.std.proofs.Common.{◌∷◌, take}
use Rattle.std.specs.Io.KnownBytes.{Appends}
use Rattle.calls.specs.Shown.{comma, hex}
use Rattle.calls.proofs.shown.print_bytes.Given as goal

abbrev pub invariant-loop-byte : goal.invariant-loop-byte
invariant-loop-byte g l = Appends (g.W.Write.contents l.fn.out) (g.W.Write.contents l.out) (comma ∷ hex (take l.byte-index l.bytes))
