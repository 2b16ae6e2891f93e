-- `instructions::Instruction::code`: each case of the instruction is that case of the definition. Assumes nothing.
use Rattle.instructions.proofs.Instruction.code.Goals as goal

pub returns-in-GetVariable : goal.returns-in-GetVariable
returns-in-GetVariable c = rw c.in-GetVariable.is c.numbered.ensures

pub returns-in-GetValue : goal.returns-in-GetValue
returns-in-GetValue c = rw c.in-GetValue.is c.numbered-in-GetValue.ensures

pub returns-in-PutVariable : goal.returns-in-PutVariable
returns-in-PutVariable c = rw c.in-PutVariable.is c.numbered-in-PutVariable.ensures

pub returns-in-PutValue : goal.returns-in-PutValue
returns-in-PutValue c = rw c.in-PutValue.is c.numbered-in-PutValue.ensures

pub returns-in-PutUnsafeValue : goal.returns-in-PutUnsafeValue
returns-in-PutUnsafeValue c = rw c.in-PutUnsafeValue.is c.numbered-in-PutUnsafeValue.ensures

pub returns-in-SetVariable : goal.returns-in-SetVariable
returns-in-SetVariable c = rw c.in-SetVariable.is c.numbered-in-SetVariable.ensures

pub returns-in-SetValue : goal.returns-in-SetValue
returns-in-SetValue c = rw c.in-SetValue.is c.numbered-in-SetValue.ensures

pub returns-in-SetLocalValue : goal.returns-in-SetLocalValue
returns-in-SetLocalValue c = rw c.in-SetLocalValue.is c.numbered-in-SetLocalValue.ensures

pub returns-in-UnifyVariable : goal.returns-in-UnifyVariable
returns-in-UnifyVariable c = rw c.in-UnifyVariable.is c.numbered-in-UnifyVariable.ensures

pub returns-in-UnifyValue : goal.returns-in-UnifyValue
returns-in-UnifyValue c = rw c.in-UnifyValue.is c.numbered-in-UnifyValue.ensures

pub returns-in-UnifyLocalValue : goal.returns-in-UnifyLocalValue
returns-in-UnifyLocalValue c = rw c.in-UnifyLocalValue.is c.numbered-in-UnifyLocalValue.ensures
