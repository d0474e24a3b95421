use Rattle.std.proofs.Common.{◌≡◌, ◌≤◌, length, drop}
use Rattle.tk_expand.specs.Reading.{after_text}
use Rattle.tk_expand.proofs.input.Input.expect_text.Given as goal

abbrev pub invariant-loop-byte : goal.invariant-loop-byte
invariant-loop-byte l = record {
  told : after_text l.code l.text l.fn.self ≡ after_text l.code (drop l.byte-index l.text) l.self;
  end : l.self.end ≡ l.fn.self.end;
  shorter : length l.self.rest ≤ length l.fn.self.rest;
}
