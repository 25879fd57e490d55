-- The words of the frames, and the slots of the words.
use borrow.Author.Rules.{rules}
use Rattle.run_writer.proofs.Coding.{plan_lent, slots_coded}
use Rattle.run_writer.proofs.write_with.Goals as goal

pub write-requires : goal.write-requires
write-requires g c =
    let k = c.code_words.auto.words in
    plan_lent c.args.q _ _ _ c.plan_of.ensures c.requires.entered.fine (search rules) c.requires.entered.slots_are

pub returns : goal.returns
returns g c = slots_coded c.args.q _ c.code_words.new.words c.args.frames.now _ c.plan_of.ensures c.code_words.ensures c.write.ensures
